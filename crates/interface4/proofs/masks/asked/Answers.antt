-- `interface4::masks::asked` meets its contract.
-- Assumes nothing.
use Rattle.std.specs.Prelude.{ℕ, ◌*◌, ◌≡◌, ◌<◌, List, [], length, get_or}
use Rattle.std.specs.Int.{w32, to_le_bytes}
use Rattle.std.proofs.Common.{rules, sym, ap, subst, ◌∙◌}
use Rattle.netmask.specs.Netmask.{good}
use Rattle.endian.specs.Endian.{words_of}
use Rattle.endian.specs.Laws.{Below, words-whole, words-below}
use Rattle.call_mask.specs.Masked.{mask_at, prefixed}
use Rattle.interface4.specs.Mask.{quads_back, prefixed_below}
use Rattle.interface4.proofs.masks.asked.Goals as goal

pub returns-in-Ok : goal.returns-in-Ok
returns-in-Ok g c =
    let long : length c.args.request.now ≡ 4 * g.row.N = search rules in
    let words = words-whole g.row.N c.args.request.now _ _ long (search rules) c.words_of.ensures in
    let own = c.in-Ok.own in
    let each : (i : ℕ) → i < length own → get_or c.map.result i [] ≡ to_le_bytes w32 (get_or own i 0) =
    λ i m. let made = (c.map.ensures.items.at i 0 [] (search rules)).2 in search (rules, made.met) in
    let is-good = ap (λ (l : List ℕ). good (mask_at c.args.at l)) (sym words) ∙ c.in-Ok.ensures.0 in
    let is : own ≡ prefixed c.args.at (words_of c.args.request.now) = c.in-Ok.ensures.1 ∙ ap (λ (l : List ℕ). prefixed c.args.at l) words in
    let low = subst (Below 4294967296) (sym is) (prefixed_below c.args.at (words_of c.args.request.now) (words-below c.args.request.now (λ i. (c.type_inv.request i).fits))) in
    (long, is-good, quads_back own c.map.result (search rules) each low ∙ is)

pub returns-in-Err : goal.returns-in-Err
returns-in-Err g c =
    let long : length c.args.request.now ≡ 4 * g.row.N = search rules in
    let words = words-whole g.row.N c.args.request.now _ _ long (search rules) c.words_of.ensures in
    let said = rw c.in-Err.ensures.0 at c.refuse.ensures in
    record {
      unsized = λ h. absurd (h long);
      masked = λ _. (ap (λ (l : List ℕ). good (mask_at c.args.at l)) (sym words) ∙ c.in-Err.ensures.1, said);
    }
