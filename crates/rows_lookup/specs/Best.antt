-- The best row so far, as a pass over the rows keeps it: one row more at the end.
use Rattle.std.specs.Prelude.{ℕ, ◌+◌, ◌≤◌, ◌<◌, ◌≡◌, Bool, true, false, cond, ◌&&◌, List, [], ◌∷◌, ◌++◌, leb, ltb, length, get_or, take}
use Rattle.std.proofs.Common.{add-one, arith, ap, ◌∙◌, append-nil, take-suc, take_all, ltb-true, ltb-false}
use Rattle.std.proofs.Math.Path.{refl}
use Rattle.std.proofs.Math.Option.{Option, none, some}
use Rattle.std.proofs.Math.Dec.{leb-zero}
use Rattle.lists.specs.Lists.{Row, keep}
use Rattle.layout.specs.Route.{len}
use Rattle.definition.specs.Reference.Lookup.{longer, longest}

-- the best so far against a row behind it: a longer one takes its place
abbrev pub later : Option Row → Row → Row
later none r = r
later (some s) r = cond (ltb (len s) (len r)) r s

later-longer : (x s r : Row) (a b c : Bool) → ltb (len s) (len r) ≡ a → ltb (len x) (len s) ≡ b → ltb (len x) (len r) ≡ c → longer x (some (cond a r s)) ≡ later (some (cond b s x)) r
later-longer x s r true true true p q t = rw (t, p)
later-longer x s r true true false p q t =
    let h : len x < len r = omega (arith, ltb-true (len s) (len r) p, ltb-true (len x) (len s) q) in
    absurd (omega (arith, ltb-false (len x) (len r) t))
later-longer x s r true false c p q t = rw t
later-longer x s r false true c p q t = rw (q, p)
later-longer x s r false false true p q t =
    absurd (omega (arith, ltb-false (len s) (len r) p, ltb-false (len x) (len s) q, ltb-true (len x) (len r) t))
later-longer x s r false false false p q t = rw (q, t)

over : (x : Row) (o : Option Row) (r : Row) → longer x (some (later o r)) ≡ later (some (longer x o)) r
over x none r = refl
over x (some s) r = later-longer x s r (ltb (len s) (len r)) (ltb (len x) (len s)) (ltb (len x) (len r)) refl refl refl

longest-more : (l : List Row) (r : Row) → longest (l ++ (r ∷ [])) ≡ some (later (longest l) r)
unfolding longest
longest-more [] r = refl
longest-more (x ∷ l) r =
    ap (λ (o : Option Row). some (longer x o)) (longest-more l r) ∙ ap {B = Option Row} some (over x (longest l) r)

-- what a row's len has to reach: one more than the best's, 0 while there is none
abbrev pub bar : Option Row → ℕ
bar none = 0
bar (some r) = len r + 1

-- a row that passes and reaches the bar takes the best one's place
abbrev pub chosen : Bool → Option Row → Row → Option Row
chosen b o r = cond b (some r) o

bar-test : (o : Option Row) (r : Row) → some (later o r) ≡ chosen (leb (bar o) (len r)) o r
bar-test none r = rw leb-zero
bar-test (some s) r = rw add-one (go (ltb (len s) (len r)))
  where
    go : (b : Bool) → ◌≡◌ {A = Option Row} (some (cond b r s)) (cond b (some r) (some s))
    go true = refl
    go false = refl

module _ (p : Row → Bool) where
  keep-more : (l : List Row) (r : Row) (b : Bool) → p r ≡ b → keep p (l ++ (r ∷ [])) ≡ keep p l ++ cond b (r ∷ []) []
  keep-more [] r b e = rw e
  keep-more (x ∷ l) r b e = go (p x) (keep-more l r b e)
    where
      go : (t : Bool) → keep p (l ++ (r ∷ [])) ≡ keep p l ++ cond b (r ∷ []) [] → cond t (x ∷ keep p (l ++ (r ∷ []))) (keep p (l ++ (r ∷ []))) ≡ cond t (x ∷ keep p l) (keep p l) ++ cond b (r ∷ []) []
      go true h = ap (λ (k : List Row). x ∷ k) h
      go false h = h

  -- one row more
  pub best-more : (l : List Row) (i : ℕ) (d : Row) → i < length l → longest (keep p (take (i + 1) l)) ≡ chosen (p (get_or l i d) && leb (bar (longest (keep p (take i l)))) (len (get_or l i d))) (longest (keep p (take i l))) (get_or l i d)
  best-more l i d h = rw (add-one, take-suc l i d) (go (p (get_or l i d)) refl)
    where
      go : (b : Bool) → p (get_or l i d) ≡ b → longest (keep p (take i l ++ (get_or l i d ∷ []))) ≡ chosen (b && leb (bar (longest (keep p (take i l)))) (len (get_or l i d))) (longest (keep p (take i l))) (get_or l i d)
      go true e =
          ap longest (keep-more (take i l) (get_or l i d) true e) ∙ longest-more (keep p (take i l)) (get_or l i d) ∙ bar-test (longest (keep p (take i l))) (get_or l i d)
      go false e = ap longest (keep-more (take i l) (get_or l i d) false e ∙ append-nil (keep p (take i l)))

  -- the best of the first i rows is the one kept, and a better one has to reach the bar
  pub record Best (l : List Row) (i : ℕ) (best : Option Row) (least : ℕ) : Type 0 where
    pub row : longest (keep p (take i l)) ≡ best
    pub reach : least ≡ bar best

  pub best-start : (l : List Row) → Best l 0 none 0
  unfolding longest
  best-start l = record { row = refl; reach = refl }

  module _ (l : List Row) (i : ℕ) (best : Option Row) (least : ℕ) (h : Best l i best least) (b : i < length l) (d : Row) where
    after : (t : Bool) → (p (get_or l i d) && leb least (len (get_or l i d))) ≡ t → longest (keep p (take (i + 1) l)) ≡ chosen t best (get_or l i d)
    after t e =
        best-more l i d b
        ∙ rw (h.row, ← h.reach, e)

    pub best_taken : (p (get_or l i d) && leb least (len (get_or l i d))) ≡ true → Best l (i + 1) (some (get_or l i d)) (len (get_or l i d) + 1)
    best_taken e = record { row = after true e; reach = refl }

    pub best-stays : (p (get_or l i d) && leb least (len (get_or l i d))) ≡ false → Best l (i + 1) best least
    best-stays e = record { row = after false e; reach = h.reach }

  pub best-end : (l : List Row) (i : ℕ) (best : Option Row) (least : ℕ) → length l ≤ i → Best l i best least → longest (keep p l) ≡ best
  best-end l i best least b h = rw (take_all i l b) at h.row
