use Rattle.std.proofs.Common.{sym}
use Rattle.step_del_v4.specs.Asked.{deleted_none, deleted_there, deleted_rows}
use Rattle.step_del_v4.proofs.del_v4.Goals as goal

pub returns-in_default : goal.returns-in_default
returns-in_default c =
    λ st f.
    let rows = c.addresses.ensures.rows st (rw c.stored.ensures f.holds) in
    deleted_none c.args.q.now f (sym (rw rows at c.in_default.ensures))

pub remove_v4-requires : goal.remove_v4-requires
remove_v4-requires c =
    let y = c.requires in
    let rows = c.addresses.ensures.rows y.state (rw c.stored.ensures y.fits.holds) in
    record { state = y.state; fits = y.fits; there = deleted_there c.args.q.now y.fits c.in-Some.a.now (sym (rw rows at c.in-Some.ensures)) }

pub returns : goal.returns
returns c =
    λ st f.
    let rows = c.addresses.ensures.rows st (rw c.stored.ensures f.holds) in
    let here = sym (rw rows at c.in-Some.ensures) in
    deleted_rows c.args.q.now f c.in-Some.a.now here (c.remove_v4.ensures st f (deleted_there c.args.q.now f c.in-Some.a.now here))
