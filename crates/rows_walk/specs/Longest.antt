-- The longest of the rows that pass, length by length from the greatest on, and so what is picked of the rows kept.
-- Assumes nothing.
use Rattle.std.specs.Prelude.{ℕ, zero, suc, ◌+◌, ◌<◌, ◌≡◌, refl, Bool, true, false, cond, ◌&&◌, List, [], ◌∷◌, eqb, ltb, drop, Option, Some, None}
use Rattle.std.proofs.Common.{arith, add-one, sym, ap, ◌∙◌, drop-cons, drop_of_length-le, eqb-true, ltb-true, ltb-false, lt-ltb, le-ltb}
use Rattle.std.proofs.Math.Bool.{and-false, and-true}
use Rattle.std.proofs.Math.Option as Math
use Rattle.std.proofs.Math.Option.{none, some}
use Rattle.std.proofs.lemmas.Bool.{eqb-false}
use Rattle.std.specs.List.{find}
use Rattle.std.specs.Option.{option_map}
use denote.Ref.{Bor}
use Rattle.lists.specs.Lists.{Row, keep, first, all}
use Rattle.lists.specs.Library.{lent}
use Rattle.layout.specs.Route.{len}
use Rattle.definition.specs.Reference.Lookup.{fits, flow_to, longer, longest}
use Rattle.rows_walk.specs.Keeps.{long, or_else, low, has_fit, picked, Keeps}

module _ (p : Row → Bool) where
  abbrev pub shorter : ℕ → Row → Bool
  shorter n r = p r && ltb (len r) n

  abbrev with_len : ℕ → Row → Bool
  with_len n r = p r && eqb (len r) n

  -- what an answer's len is below
  abbrev under : ℕ → Math.Option Row → Type 0
  under n none = Unit {0}
  under n (some r) = len r < n

  under-longer : (n : ℕ) (x : Row) (o : Math.Option Row) → len x < n → under n o → len (longer x o) < n
  under-longer n x none h k = h
  under-longer n x (some s) h k = go (ltb (len x) (len s))
    where
      go : (b : Bool) → len (cond b s x) < n
      go true = k
      go false = h

  longest-under : (n : ℕ) (l : List Row) → under n (longest (keep (shorter n) l))
  unfolding longest
  longest-under n [] = tt
  longest-under n (x ∷ l) = go (p x) (ltb (len x) n) refl (longest-under n l)
    where
      go : (a b : Bool) → ltb (len x) n ≡ b → under n (longest (keep (shorter n) l))
          → under n (longest (cond (a && b) (x ∷ keep (shorter n) l) (keep (shorter n) l)))
      go false b e h = h
      go true false e h = h
      go true true e h = unfold longest in under-longer n x (longest (keep (shorter n) l)) (ltb-true (len x) n e) h

  -- x is the longest with an answer behind it that is no longer
  stands : (x : Row) (n : ℕ) (o : Math.Option Row) → len x ≡ n → under (n + 1) o → longer x o ≡ x
  stands x n none e h = refl
  stands x n (some s) e h = rw (le-ltb (len x) (len s) (omega arith))

  -- x is shorter than what answers with the length n
  yields : (x : Row) (n : ℕ) (o t : Math.Option Row) → len x < n → ((s : Row) → o ≡ some s → len s ≡ n)
      → some (longer x (or_else o t)) ≡ or_else o (some (longer x t))
  yields x n none t h k = refl
  yields x n (some s) t h k =
      let e : len s ≡ n = k s refl in
      rw (lt-ltb (len x) (len s) (omega arith))

  first-long : (n : ℕ) (l : List Row) (s : Row) → first (with_len n) l ≡ some s → len s ≡ n
  first-long n [] s e = cc
  first-long n (x ∷ l) s e = go (p x) (eqb (len x) n) refl e (first-long n l s)
    where
      go : (a b : Bool) → eqb (len x) n ≡ b → cond (a && b) (some x) (first (with_len n) l) ≡ some s
          → (first (with_len n) l ≡ some s → len s ≡ n) → len s ≡ n
      go false b f e h = h e
      go true false f e h = h e
      go true true f e h =
          let is : x ≡ s = cc in
          rw (← is) (eqb-true (len x) n f)

  -- one length more
  pub longest-step : (n : ℕ) (l : List Row) → longest (keep (shorter (n + 1)) l) ≡ or_else (first (with_len n) l) (longest (keep (shorter n) l))
  unfolding longest
  longest-step n [] = refl
  longest-step n (x ∷ l) = go (p x) (ltb (len x) (n + 1)) refl (eqb (len x) n) refl (ltb (len x) n) refl (longest-step n l)
    where
      up : List Row
      up = keep (shorter (n + 1)) l

      down : List Row
      down = keep (shorter n) l

      here : Math.Option Row
      here = first (with_len n) l

      go : (a b : Bool) → ltb (len x) (n + 1) ≡ b → (c : Bool) → eqb (len x) n ≡ c → (d : Bool) → ltb (len x) n ≡ d
          → longest up ≡ or_else here (longest down)
          → longest (cond (a && b) (x ∷ up) up) ≡ or_else (cond (a && c) (some x) here) (longest (cond (a && d) (x ∷ down) down))
      go false b e c f d g h = h
      go true false e false f false g h = h
      go true true e true f false g h =
          unfold longest in
          ap {B = Math.Option Row} some (stands x n (longest up) (eqb-true (len x) n f) (longest-under (n + 1) l))
      go true true e false f true g h =
          unfold longest in
          ap (λ (o : Math.Option Row). some (longer x o)) h
          ∙ yields x n here (longest down) (ltb-true (len x) n g) (first-long n l)
      go true false e true f d g h =
          absurd (omega (arith, ltb-false (len x) (n + 1) e, eqb-true (len x) n f))
      go true false e false f true g h =
          absurd (omega (arith, ltb-false (len x) (n + 1) e, ltb-true (len x) n g))
      go true true e true f true g h =
          absurd (omega (arith, eqb-true (len x) n f, ltb-true (len x) n g))
      go true true e false f false g h =
          absurd (eqb-false (len x) n f (omega (arith, ltb-true (len x) (n + 1) e, ltb-false (len x) n g)))

  -- all are shorter than 33, none is shorter than 0
  pub longest-all : (l : List Row) → all (λ r. ltb (len r) 33) l ≡ true → longest (keep (shorter 33) l) ≡ longest (keep p l)
  longest-all l e = ap longest (go l e)
    where
      go : (l : List Row) → all (λ r. ltb (len r) 33) l ≡ true → keep (shorter 33) l ≡ keep p l
      go [] e = refl
      go (x ∷ l) e = one (ltb (len x) 33) e (go l)
        where
          one : (b : Bool) → (b && all (λ r. ltb (len r) 33) l) ≡ true → (all (λ r. ltb (len r) 33) l ≡ true → keep (shorter 33) l ≡ keep p l)
              → cond (p x && b) (x ∷ keep (shorter 33) l) (keep (shorter 33) l) ≡ cond (p x) (x ∷ keep p l) (keep p l)
          one true e h = rw (and-true (p x), h e)
          one false e h = cc

  pub longest-none : (l : List Row) → longest (keep (shorter 0) l) ≡ none
  unfolding longest
  longest-none [] = refl
  longest-none (x ∷ l) = rw (le-ltb (len x) 0 (omega arith), and-false (p x)) (longest-none l)

-- what is kept from a place on gives the longest of the rows that are shorter
module _ (l : List Row) (kept : List (Option (Bor Row))) (k : Keeps l kept) (d : ℕ) (reached : low d l ≡ true) where
  picked-from : (n i : ℕ) → n + i ≡ 33 → picked d (drop i kept) ≡ longest (keep (shorter (fits (flow_to d)) n) l)
  picked-from zero i e =
      ap (picked d) (drop_of_length-le kept {i = i} (omega (arith, k.size))) ∙ sym (longest-none (fits (flow_to d)) l)
  picked-from (suc n) i e =
      let more : longest (keep (shorter (fits (flow_to d)) (suc n)) l) ≡ or_else (first (long d n) l) (longest (keep (shorter (fits (flow_to d)) n) l)) =
      rw add-one at (longest-step (fits (flow_to d)) n l)
      in
      rw (drop-cons kept i None (omega (arith, k.size)), more, k.answers i n d (omega arith) reached, picked-from n (suc i) (omega arith))

  pub picked-longest : picked d kept ≡ longest (keep (fits (flow_to d)) l)
  picked-longest = picked-from 33 0 refl ∙ longest-all (fits (flow_to d)) l k.short

abbrev pub found : ℕ → Option (Option (Bor Row)) → Math.Option Row
found d None = none
found d (Some o) = lent o

-- what is picked is what is found
pub picked-found : (d : ℕ) (kept : List (Option (Bor Row))) → picked d kept ≡ found d (find (has_fit d) kept)
picked-found d [] = refl
picked-found d (None ∷ kept) = picked-found d kept
picked-found d (Some r ∷ kept) = go (fits (flow_to d) r.now) (picked-found d kept)
  where
    go : (b : Bool) → picked d kept ≡ found d (find (has_fit d) kept) → or_else (cond b (some r.now) none) (picked d kept) ≡ found d (cond b (Some (Some r)) (find (has_fit d) kept))
    go true h = refl
    go false h = h

module _ (d : ℕ) (kept : List (Option (Bor Row))) {o : Option (Bor (Option (Bor Row)))} (e : option_map (λ k. k.now) o ≡ find (has_fit d) kept) where
  pub picked-none : o ≡ None → none ≡ picked d kept
  picked-none is = sym (picked-found d kept ∙ ap (found d) (sym e ∙ ap (option_map (λ k. k.now)) is))

  pub picked-some : (k : Bor (Option (Bor Row))) → o ≡ Some k → lent k.now ≡ picked d kept
  picked-some k is = sym (picked-found d kept ∙ ap (found d) (sym e ∙ ap (option_map (λ k. k.now)) is))
