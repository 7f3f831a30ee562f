use Rattle.std.specs.Prelude.{get_or, take}
use Rattle.std.proofs.Common.{arith, add-one, ap, ◌∙◌, take-suc, take_all}
use Rattle.definition.specs.Reference.Lookup.{flow_to}
use Rattle.rows_lookup.specs.Answer.{lookup_rows}
use Rattle.rows_many.specs.Sets.{answer_to, words_of, weighed_rows, words-answered}
use Rattle.rows_many.specs.Walks.{both_weighed, both-few}
use Rattle.rows_many.specs.Written.{written_start, written-more, written_end, above-before}
use Rattle.rows_many.proofs.lookup4_many.Goals as goal

pub loop-j-init : goal.loop-j-init
loop-j-init c = record { walks = c.of-walks.ensures; written = written_start _ _ _ }

pub loop-j-preserved : goal.loop-j-preserved
loop-j-preserved c =
    let ds = c.args.destinations.now in
    let l = c.args.routes.rows.now in
    let j = c.loop-j.j in
    let b = c.loop-j-test.true in
    let a = c.answer.ensures c.args.default_listed l (take j ds) c.requires.rows.0 (above-before ds j b c.requires.destinations) c.loop-j.invariant.walks in
    record {
      walks = rw (add-one, take-suc ds j 0 b) a.1;
      written =
          written-more (answer_to c.args.default_listed l) ds c.args.answers.now j b (omega (arith, c.requires.room)) c.loop-j.invariant.written
          c.answer_of-answer.ensures.size
          (c.answer_of-answer.ensures.words ∙ ap words_of a.0 ∙ words-answered (lookup_rows c.args.default_listed l (flow_to (get_or ds j 0)))) c.store.ensures;
    }

pub overflow_add-result : goal.overflow_add-result
overflow_add-result c =
    record { fits = omega (arith, both-few c.args.default_listed c.args.routes.rows.now _ c.loop-j.walks c.loop-j.invariant.walks, c.requires.rows.1) }

pub overflow_cast-result : goal.overflow_cast-result
overflow_cast-result c =
    record { fits = omega (arith, both-few c.args.default_listed c.args.routes.rows.now _ c.loop-j.walks c.loop-j.invariant.walks, c.requires.rows.1) }

pub returns-clause-value : goal.returns-clause-value
returns-clause-value c =
    both_weighed c.args.default_listed c.args.routes.rows.now _ c.loop-j.walks c.loop-j.invariant.walks
    ∙ ap (weighed_rows c.args.default_listed c.args.routes.rows.now) (take_all c.loop-j.j c.args.destinations.now c.loop-j-test.false)

pub returns-clause-answers_after : goal.returns-clause-answers_after
returns-clause-answers_after c = written_end _ _ _ c.loop-j.j c.loop-j-test.false c.loop-j.invariant.written
