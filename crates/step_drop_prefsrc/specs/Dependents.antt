-- Rows go each by a deletion that names it. Where every row that such a deletion names is to go as well, each finds itself: the rows that
-- stay are left in their order, and those that go are emitted in theirs.
-- Assumes nothing.
use Rattle.std.specs.Prelude.{ℕ, ◌≡◌, Bool, true, false, eqb}
use Rattle.std.proofs.Math.Path.{refl, ap}
use Rattle.std.proofs.Common.{◌∙◌, eqb-true, eq-eqb}
use Rattle.std.proofs.Math.Bool.{not}
use mathlib.Core.List.{List, [], ◌∷◌, ◌++◌, map, append_assoc}
use Rattle.lists.specs.Lists.{Row, any, keep}
use Rattle.lists.specs.Bools.{and_iff, test-case, or_right}
use Rattle.lists.specs.All.{any_none}
use Rattle.layout.specs.Route.{table, dst, len, tos, kind, scope, prefsrc_present, prefsrc, proto, device, priority}
use Rattle.layout.specs.Event.{del_route4}
use Rattle.definition.specs.State.{State, Out, becomes, also, through, with_routes}
use Rattle.definition.specs.Reference.Insert.{matches, kernel_del4}
use Rattle.definition.specs.Reference.Removal.{dependent_on}
use Rattle.step_events.specs.Iterations.{Like}
use Rattle.lists.specs.Front.{none-joined, first-behind, remove_behind}

pub matches_self : (r : Row) → matches r r ≡ true
unfolding matches
matches_self r =
    let e : (a : ℕ) → eqb a a ≡ true = λ a. eq-eqb a a refl in
    rw (e (table r), e (dst r), e (len r), e (tos r), e (kind r), e (scope r), e (prefsrc_present r), e (prefsrc r), e (proto r), e (device r), e (priority r))
    (or_right (eqb (priority r) 0) true refl)

-- the first row that p names goes
del_behind : (p : Row) (front l : List Row) (r : Row) (st : State) → any (matches p) front ≡ false → matches p r ≡ true
    → kernel_del4 p (with_routes (front ++ (r ∷ l)) st) ≡ becomes (with_routes (front ++ l) st) (del_route4 r ∷ [])
unfolding kernel_del4
del_behind p front l r st c e = rw (first-behind (matches p) front r l c e, remove_behind (matches p) front r l c e)

module _ (q : Row → Bool) (both : (p r : Row) → q p ≡ true → matches p r ≡ true → q r ≡ true) (st : State) where
  -- none of those in front is to go
  behind : (front l : List Row) → any q front ≡ false
      → Like (through kernel_del4 (keep q l) (with_routes (front ++ l) st)) (becomes (with_routes (front ++ keep (λ r. not (q r)) l) st) (map del_route4 (keep q l)))
  unfolding through also
  behind front [] c = record { leaves = refl; same_emitted = refl }
  behind front (x ∷ l) c =
      test-case (q x)
      (λ e.
      let self = del_behind x front l x st (any_none q (matches x) front (λ r k. both x r e k) c) (matches_self x) in
      let on = behind front l c in
      rw (e, self) (record { leaves = on.leaves; same_emitted = ap (λ (m : List Row). del_route4 x ∷ m) on.same_emitted }))
      (λ e.
      let on = behind (front ++ (x ∷ [])) l (none-joined q front (x ∷ []) c (rw e)) in
      rw e (rw (append_assoc front (x ∷ []) l, append_assoc front (x ∷ []) (keep (λ r. not (q r)) l)) at on))

  pub all_go : Like (through kernel_del4 (keep q st.routes) st) (becomes (with_routes (keep (λ r. not (q r)) st.routes) st) (map del_route4 (keep q st.routes)))
  all_go = behind [] st.routes refl

-- ---- main rows with a preferred source
abbrev pub dependents_go : ℕ → State → Out
dependents_go ip st = through kernel_del4 (keep (dependent_on ip) st.routes) st

same-eqb : (a b c : ℕ) → eqb a b ≡ true → eqb b c ≡ true → eqb a c ≡ true
same-eqb a b c h k = eq-eqb a c (eqb-true a b h ∙ eqb-true b c k)

pub dependent-matches : (ip : ℕ) (p r : Row) → dependent_on ip p ≡ true → matches p r ≡ true → dependent_on ip r ≡ true
unfolding matches
dependent-matches ip p r h k =
    let s = simp and_iff at h in
    let n = simp and_iff at k in
    simp and_iff (
      (same-eqb (table r) (table p) 254 n.0.0.0.0.0.0.0.0.0.0 s.0.0, same-eqb (prefsrc_present r) (prefsrc_present p) 1 n.0.0.0.0.1 s.0.1),
      same-eqb (prefsrc r) (prefsrc p) ip n.0.0.0.1 s.1,
    )
