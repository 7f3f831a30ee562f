use Rattle.std.specs.Prelude.{ℕ, Bool, ◌+◌, ◌-◌, ◌∷◌, ◌||◌, List, [], eqb, take}
use Rattle.std.specs.List.{list_any}
use Rattle.std.specs.Cmp.Lexicographic.{pointwise}
use Rattle.std.proofs.Common.{rules, arith, refl, sym, ap, ap₂, ◌∙◌, ◌≡◌, ◌&&◌, not, length, drop, length-drop, take_all, eqb-true, eq-eqb}
use Rattle.std.proofs.lemmas.List.Sorted.{IsPartitionPoint-from_clause}
use Rattle.lists.specs.Lists.{Row, any, eq_row}
use Rattle.lists.specs.Bools.{test-case, fails, true-false}
use Rattle.layout.specs.Route.{before}
use Rattle.step_insert.specs.Run.{ahead-parted, behind-parted, run_cut}
use Rattle.step_insert.proofs.alike4.Goals as goal

-- the library's equality of rows, the other way round
eqb-swap : (x y : ℕ) → eqb x y ≡ eqb y x
eqb-swap x y =
    test-case (eqb y x) (λ e. eq-eqb x y (sym (eqb-true y x e)) ∙ sym e)
    (λ e. fails (eqb x y) (λ f. true-false (eqb y x) (eq-eqb y x (sym (eqb-true x y f))) e) ∙ sym e)

eq_row-swap : (a b : Row) → pointwise eqb a b ≡ eq_row b a
eq_row-swap [] [] = refl
eq_row-swap [] (y ∷ b) = refl
eq_row-swap (x ∷ a) [] = refl
eq_row-swap (x ∷ a) (y ∷ b) = ap₂ (λ (p q : Bool). p && q) (eqb-swap x y) (eq_row-swap a b)

any-contained : (new : Row) (l : List Row) → list_any (λ y. pointwise eqb y new) l ≡ any (eq_row new) l
any-contained new [] = refl
any-contained new (x ∷ l) = ap₂ (λ (p q : Bool). p || q) (eq_row-swap x new) (any-contained new l)

pub returns-clause-run : goal.returns-clause-run
returns-clause-run c =
    λ o.
    let new = c.args.new.now in
    let l = c.args.run.now in
    let i = c.partition_point-start.result in
    let m = c.partition_point.result in
    let rest : take (length l - i) (drop i l) ≡ drop i l = take_all (length l - i) (drop i l) (omega (arith, length-drop i l)) in
    let so-many : i + m - i ≡ m = omega arith in
    let there : c.contains-there.result ≡ any (eq_row new) (take m (drop i l)) = c.contains-there.ensures.value ∙ any-contained new _ ∙ ap (λ (n : ℕ). any (eq_row new) (take n (drop i l))) so-many in
    rw there
    (run_cut new l i m c.partition_point-start.ensures.bound (rw rest at c.partition_point.ensures.bound)
    (IsPartitionPoint-from_clause (λ r. before r new) l i c.partition_point-start.ensures.partitioned (ahead-parted new l o) (λ a r q k. search rules))
    (IsPartitionPoint-from_clause (λ r. not (before new r)) (drop i l) m (rw rest at c.partition_point.ensures.partitioned) (behind-parted new l o i) (λ a r q k. search rules)))
