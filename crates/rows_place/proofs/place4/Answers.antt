use Rattle.std.proofs.Common.{ℕ, ◌+◌, ◌≡◌, refl, Bool, true, false, cond, List, [], ◌∷◌, length, Bor, Option, None, Some, arith, rules, tests, length-append, sym, ap, subst, ◌∙◌}
use Rattle.std.specs.Fn.{Called}
use Rattle.std.specs.List.{FoldsTo}
use Rattle.std.specs.Option.{MatchOption}
use Rattle.std.specs.Iterator.{Yields, FindsPositionBack}
use Rattle.std.specs.declared.slice.Iter.{Iter}
use Rattle.std.specs.Slice.Iter.{iter_rest, iter_steps_back}
use denote.Param.Members.{Mut}
use Rattle.definition.specs.Reference.Addresses.{yields}
use Rattle.rows_place.specs.Behind.{behind_of, behind_le, behind-joined}
use Rattle.rows_place.specs.Rows.{place-last, place-behind}
use Rattle.rows_place.proofs.place4.Goals as goal

-- a search from the back finds the last that passes
module _ {A F : Type 0} (p : A → Bool) (g : Mut F (Bor A × Unit {0}) Bool) (f : F) (says : (x : Bor A) (b : Bool) (q : F) → Called g f (x, tt) b q → (q ≡ f) × (b ≡ p x.now)) where
  one-less : (s t : Iter A) (x : Bor A) → iter_steps_back s (Some x) t → (behind_of p (iter_rest s) ≡ cond (p x.now) (length (iter_rest s)) (behind_of p (iter_rest t))) × (length (iter_rest s) ≡ length (iter_rest t) + 1)
  one-less s t x e = (ap (behind_of p) e ∙ behind-joined p (iter_rest t) x.now ∙ ap (λ n. cond (p x.now) n (behind_of p (iter_rest t))) (omega (arith, long)), long)
    where
      long : length (iter_rest s) ≡ length (iter_rest t) + 1
      long = ap length e ∙ length-append (iter_rest t) (x.now ∷ [])

  passed : (xs : List (Bor A)) (s t : Iter A) (h : F) → Yields iter_steps_back s xs t → FoldsTo (λ k x q. Called g k (x, tt) false q) f xs h
      → (h ≡ f) × ((behind_of p (iter_rest s) ≡ behind_of p (iter_rest t)) × (length (iter_rest s) ≡ length xs + length (iter_rest t)))
  passed [] s t h y c = (sym c, (ap (λ u. behind_of p (iter_rest u)) y, omega (arith, ap (λ u. length (iter_rest u)) y)))
  passed (x ∷ xs) s t h y c =
      let is = says x false c.0 c.1 in
      let less = one-less s y.0 x y.1 in
      let more = passed xs y.0 t h y.2 (subst (λ q. FoldsTo (λ k z j. Called g k (z, tt) false j) q xs h) is.0 c.2) in
      (more.0, (less.0 ∙ ap (λ b. cond b (length (iter_rest s)) (behind_of p (iter_rest y.0))) (sym is.1) ∙ more.1.0, omega (arith, less.1, more.1.1)))

  found : (n : ℕ) (r : Option ℕ) (s u : Iter A) → n ≡ length (iter_rest s) → FindsPositionBack iter_steps_back g s f n r u → MatchOption r (behind_of p (iter_rest s) ≡ 0) (λ i. behind_of p (iter_rest s) ≡ i + 1)
  found n r s u e (xs, None, h, y, c, m) =
      let skipped = passed xs s y.0 h y.1 c in
      let none : behind_of p (iter_rest s) ≡ 0 = omega (arith, skipped.1.0, y.2.0, behind_le p (iter_rest y.0)) in
      subst (λ k. MatchOption k (behind_of p (iter_rest s) ≡ 0) (λ i. behind_of p (iter_rest s) ≡ i + 1)) (sym m) none
  found n None s u e (xs, Some x, h, y, c, m) = absurd m.0
  found n (Some i) s u e (xs, Some x, h, y, c, m) =
      let skipped = passed xs s y.0 h y.1 c in
      let less = one-less y.0 u x y.2 in
      let is = says x true m.1.0 (subst (λ q. Called g q (x, tt) true m.1.0) skipped.0 m.1.1) in
      let here : behind_of p (iter_rest y.0) ≡ length (iter_rest y.0) = less.0 ∙ ap (λ b. cond b (length (iter_rest y.0)) (behind_of p (iter_rest u))) (sym is.1) in
      omega (arith, e, m.0, skipped.1.0, skipped.1.1, here)

counted : (n b : ℕ) (r : Option ℕ) → MatchOption r (b ≡ 0) (λ i. b ≡ i + 1) → MatchOption r (n ≡ 0) (λ i. n ≡ i + 1) → n ≡ b
counted n b None e h = h ∙ sym e
counted n b (Some i) e h = h ∙ sym e

pub returns-then-secondary-clause-value : goal.returns-then-secondary-clause-value
returns-then-secondary-clause-value c = place-last c.args.new.now c.args.addresses.rows.now _ refl (sym c.secondary.ensures ∙ c.if-secondary.true)

pub returns-clause-value : goal.returns-clause-value
returns-clause-value c =
    let last = found (yields c.args.new.now) _ _ (λ x b q k. search (rules, tests)) _ c.rposition.result _ _ refl c.rposition.ensures.ran in
    let rows : iter_rest c.iter.result ≡ c.args.addresses.rows.now = search rules in
    place-behind c.args.new.now c.args.addresses.rows.now c.map_or.result (sym c.secondary.ensures ∙ c.if-secondary.false) (counted _ _ _ last (search rules) ∙ ap (behind_of (yields c.args.new.now)) rows)
