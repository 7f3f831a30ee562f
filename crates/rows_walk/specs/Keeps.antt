-- What a walk keeps of the rows passed: for each length of a prefix one row.
-- Assumes nothing.
use Rattle.std.specs.Prelude.{ℕ, ◌+◌, ◌-◌, ◌*◌, ◌/◌, ◌^◌, ◌≤◌, ◌<◌, ◌≡◌, refl, Bool, true, false, cond, not, ◌&&◌, ◌||◌, List, [], ◌∷◌, ◌++◌, eqb, leb, ltb, length, get_or, set, replicate, Option, Some, None}
use Rattle.std.proofs.Common.{div-add-mod', div-mul-le_self, le-div_iff_mul-le, mul-le-mul_right, arith, sym, ap, ◌∙◌, pow_pos, length-set, get_or-set_same, get_or-set_other, eqb-true, eq-eqb, ne_eqb, leb-true, lt-ltb}
use Rattle.std.proofs.Math.Bool.{and-false, and-true, or-true, or_self}
use Rattle.std.proofs.Math.Option as Math
use Rattle.std.proofs.Math.Option.{none, some}
use Rattle.std.proofs.Math.Dec.{leb-zero}
use Rattle.std.proofs.lemmas.Bool.{eqb-false}
use Rattle.std.proofs.lemmas.List.{get_or-replicate}
use denote.Ref.{Bor}
use Rattle.lists.specs.Lists.{Row, all, first}
use Rattle.lists.specs.Library.{lent}
use Rattle.lists.specs.Bools.{and_left, and_right, and_iff, not-both, true-false, test-case}
use Rattle.lists.specs.All.{all_append, all-front, all_back, all_head}
use Rattle.prefix.specs.Mask.{network, host_bits, flow_tos}
use Rattle.layout.specs.Route.{dst, len, tos, scope, device, fit_route}
use Rattle.definition.specs.Preservation.Fit.{route-len}
use Rattle.definition.specs.Reference.Lookup.{fits, flow_to, rejects}

-- the row fits a destination alone, and has the length n
abbrev pub long : ℕ → ℕ → Row → Bool
long d n r = fits (flow_to d) r && eqb (len r) n

-- what of two comes first
abbrev pub or_else : Math.Option Row → Math.Option Row → Math.Option Row
or_else none o = o
or_else (some r) o = some r

-- the row, if it fits
abbrev pub fitting : ℕ → Math.Option Row → Math.Option Row
fitting d none = none
fitting d (some r) = cond (fits (flow_to d) r) (some r) none

-- no dst is above another
abbrev pub low : ℕ → List Row → Bool
low d l = all (λ r. leb (dst r) d) l

abbrev pub NotAbove : List Row → Row → Type 0
NotAbove l r = low (dst r) l ≡ true

-- no row of its dst is kept
abbrev pub is_new : Option (Bor Row) → Row → Bool
is_new None r = true
is_new (Some s) r = not (eqb (dst s.now) (dst r))

-- what is kept fits
abbrev pub has_fit : ℕ → Option (Bor Row) → Bool
has_fit d None = false
has_fit d (Some r) = fits (flow_to d) r.now

-- of what is kept, in that order, the first row that fits
abbrev pub picked : ℕ → List (Option (Bor Row)) → Math.Option Row
picked d [] = none
picked d (k ∷ kept) = or_else (fitting d (lent k)) (picked d kept)

-- a row that is kept for the length n
pub record Own (l : List Row) (n : ℕ) (r : Row) : Type 0 where
  pub length : len r ≡ n
  pub plain : tos r ≡ 0
  pub bound : (d : ℕ) → low d l ≡ true → dst r ≤ d

-- for each length n, at the place i, what is kept answers for every destination that isn't below the rows passed
pub record Keeps (l : List Row) (kept : List (Option (Bor Row))) : Type 0 where
  pub size : length kept ≡ 33
  pub short : all (λ r. ltb (len r) 33) l ≡ true
  pub own : (i n : ℕ) (r : Bor Row) → n + i ≡ 32 → get_or kept i None ≡ Some r → Own l n r.now
  pub answers : (i n d : ℕ) → n + i ≡ 32 → low d l ≡ true → first (long d n) l ≡ fitting d (lent (get_or kept i None))

-- ---- numbers
pub network-below : (d n : ℕ) → network d n ≤ d
unfolding network
network-below d n = div-mul-le_self d (2 ^ (32 - n))

-- a prefix that isn't above an address isn't above the address's network
network-reach : (x d n : ℕ) → host_bits x n ≡ 0 → x ≤ d → x ≤ network d n
unfolding network host_bits
network-reach x d n z h =
    let k = 2 ^ (32 - n) in
    let whole : x / k * k ≡ x = omega (arith, div-add-mod' x k) in
    let q : x / k ≤ d / k = (le-div_iff_mul-le (pow_pos (32 - n))).1 (omega arith) in
    let m : x / k * k ≤ d / k * k = mul-le-mul_right k q in
    omega arith

route-clear : (r : Row) → fit_route r ≡ true → host_bits (dst r) (len r) ≡ 0
unfolding fit_route
route-clear r h = eqb-true (host_bits (dst r) (len r)) 0 (simp and_iff at h).0.0.0.0.0.0.0.0.0.1

-- a destination alone, without tos and device, of any scope
pub fits-plain : (d : ℕ) (r : Row) → fits (flow_to d) r ≡ (eqb (dst r) (network d (len r)) && eqb (tos r) 0)
unfolding fits flow_tos
fits-plain d r = go (eqb (dst r) (network d (len r)))
  where
    go : (b : Bool) → (b && (eqb (tos r) 0 || eqb (tos r) 0) && leb 0 (scope r) && (rejects r || true || (false && eqb (device r) 1))) ≡ (b && eqb (tos r) 0)
    go false = refl
    go true = simp (or_self, leb-zero, or-true, and-true)

-- ---- lists
pub first_append : (p : Row → Bool) (l m : List Row) → first p (l ++ m) ≡ or_else (first p l) (first p m)
first_append p [] m = refl
first_append p (x ∷ l) m = go (p x) (first_append p l m)
  where
    go : (b : Bool) → first p (l ++ m) ≡ or_else (first p l) (first p m)
        → cond b (some x) (first p (l ++ m)) ≡ or_else (cond b (some x) (first p l)) (first p m)
    go true h = refl
    go false h = h

or_else-none : (o : Math.Option Row) → or_else o none ≡ o
or_else-none none = refl
or_else-none (some r) = refl

first-not : (p : Row → Bool) (l : List Row) (r : Row) → p r ≡ false → first p (l ++ (r ∷ [])) ≡ first p l
first-not p l r e = first_append p l (r ∷ []) ∙ rw e (or_else-none (first p l))

-- ---- nothing passed yet
pub keeps-nothing : Keeps [] (replicate 33 None)
keeps-nothing =
    record {
      size = refl;
      short = refl;
      own = λ i n r b h. (let bad : ◌≡◌ {A = Option (Bor Row)} None (Some r) = sym (get_or-replicate {A = Option (Bor Row)} 33 i None None (omega arith)) ∙ h in cc);
      answers = λ i n d b h. rw (get_or-replicate {A = Option (Bor Row)} 33 i None None (omega arith));
    }

-- ---- one row more
module _ (l : List Row) (kept : List (Option (Bor Row))) (k : Keeps l kept) (r : Bor Row) (fit : fit_route r.now ≡ true) (above : NotAbove l r.now)
    (i : ℕ) (place : len r.now + i ≡ 32) where
  more : List Row
  more = l ++ (r.now ∷ [])

  short-more : all (λ s. ltb (len s) 33) more ≡ true
  unfolding more
  short-more = all_append (λ s. ltb (len s) 33) l (r.now ∷ []) k.short (rw (lt-ltb (len r.now) 33 (omega (arith, route-len r.now fit))))

  front : (d : ℕ) → low d more ≡ true → low d l ≡ true
  unfolding more
  front d h = all-front (λ s. leb (dst s) d) l (r.now ∷ []) h

  here : (d : ℕ) → low d more ≡ true → dst r.now ≤ d
  unfolding more
  here d h = leb-true (dst r.now) d (all_head (λ s. leb (dst s) d) r.now [] (all_back (λ s. leb (dst s) d) l (r.now ∷ []) h))

  own-more : (n : ℕ) (s : Row) → Own l n s → Own more n s
  own-more n s o = record { length = o.length; plain = o.plain; bound = λ d h. o.bound d (front d h) }

  -- it isn't kept
  stays : ((n d : ℕ) → low d more ≡ true → first (long d n) more ≡ first (long d n) l) → Keeps more kept
  stays same =
      record {
        size = k.size;
        short = short-more;
        own = λ j n s b h. own-more n s.now (k.own j n s b h);
        answers = λ j n d b h. same n d h ∙ k.answers j n d b (front d h);
      }

  pass_marked : (tos r.now ≡ 0 → ⊥) → Keeps (l ++ (r.now ∷ [])) kept
  unfolding more
  pass_marked h =
      stays (λ n d m. first-not (long d n) l r.now (rw (fits-plain d r.now, ne_eqb (tos r.now) 0 h, and-false (eqb (dst r.now) (network d (len r.now))))))

  -- one of its dst and length stands there already
  module _ (s : Bor Row) (there : get_or kept i None ≡ Some s) (same : dst s.now ≡ dst r.now) where
    alike : (n d : ℕ) → low d more ≡ true → (t : Bool) → long d n r.now ≡ t → first (long d n) more ≡ first (long d n) l
    unfolding more
    alike n d m false e = first-not (long d n) l r.now e
    alike n d m true e =
        let o = k.own i (len r.now) s place there in
        let at : len r.now ≡ n = eqb-true (len r.now) n (and_right (fits (flow_to d) r.now) (eqb (len r.now) n) e) in
        let fit-r : eqb (dst r.now) (network d (len r.now)) && eqb (tos r.now) 0 ≡ true =
        sym (fits-plain d r.now) ∙ and_left (fits (flow_to d) r.now) (eqb (len r.now) n) e
        in
        let net = and_left (eqb (dst r.now) (network d (len r.now))) (eqb (tos r.now) 0) fit-r in
        let fit-s : fits (flow_to d) s.now ≡ true = fits-plain d s.now ∙ rw (same, o.length, net, eq-eqb (tos s.now) 0 o.plain) in
        let before : first (long d n) l ≡ some s.now = k.answers i n d (rw at at place) (front d m) ∙ rw (there, fit-s) in
        first_append (long d n) l (r.now ∷ []) ∙ rw before

    pass_stays : Keeps (l ++ (r.now ∷ [])) kept
    unfolding more
    pass_stays = stays (λ n d m. alike n d m (long d n r.now) refl)

  -- it takes the place of one to a lower dst
  module _ (plain : tos r.now ≡ 0) (new : (s : Bor Row) → get_or kept i None ≡ Some s → dst s.now ≡ dst r.now → ⊥) where
    abbrev kept' : List (Option (Bor Row))
    kept' = set kept i (Some r)

    inside : i < length kept
    inside = omega (arith, k.size, place)

    old-gone : (d : ℕ) → low d more ≡ true → (o : Option (Bor Row)) → get_or kept i None ≡ o → fitting d (lent o) ≡ none
    old-gone d m None e = refl
    old-gone d m (Some s) e =
        let o = k.own i (len r.now) s place e in
        let lower : dst s.now ≤ dst r.now = o.bound (dst r.now) above in
        let reach : dst r.now ≤ network d (len r.now) = network-reach (dst r.now) d (len r.now) (route-clear r.now fit) (here d m) in
        let apart : dst s.now ≡ network d (len r.now) → ⊥ = λ z. new s e (omega arith) in
        let misses : fits (flow_to d) s.now ≡ false = fits-plain d s.now ∙ rw (o.length, ne_eqb (dst s.now) (network d (len r.now)) apart) in
        rw misses

    own' : (j n : ℕ) (s : Bor Row) → n + j ≡ 32 → get_or kept' j None ≡ Some s → (t : Bool) → eqb j i ≡ t → Own more n s.now
    own' j n s b h true e =
        let at = eqb-true j i e in
        let same : ◌≡◌ {A = Option (Bor Row)} (Some r) (Some s) =
        sym (get_or-set_same kept i (Some r) None inside) ∙ ap (λ (x : ℕ). get_or kept' x None) (sym at) ∙ h
        in
        let that : r ≡ s = cc in
        rw (← that) (record { length = omega (arith, at, place, b); plain = plain; bound = here })
    own' j n s b h false e = own-more n s.now (k.own j n s b (sym (get_or-set_other kept i j (Some r) None (eqb-false j i e)) ∙ h))

    answers' : (j n d : ℕ) → n + j ≡ 32 → low d more ≡ true → (t : Bool) → eqb j i ≡ t → first (long d n) more ≡ fitting d (lent (get_or kept' j None))
    unfolding more
    answers' j n d b m true e =
        let at = eqb-true j i e in
        let is : len r.now ≡ n = omega (arith, at, place, b) in
        let before : first (long d n) l ≡ none = k.answers j n d b (front d m) ∙ rw at (old-gone d m (get_or kept i None) refl) in
        first_append (long d n) l (r.now ∷ []) ∙ rw (before, at, get_or-set_same kept i (Some r) None inside, eq-eqb (len r.now) n is, and-true (fits (flow_to d) r.now))
    answers' j n d b m false e =
        let apart = eqb-false j i e in
        let other : len r.now ≡ n → ⊥ = λ z. apart (omega (arith, z, place, b)) in
        first-not (long d n) l r.now (rw (ne_eqb (len r.now) n other, and-false (fits (flow_to d) r.now)))
        ∙ k.answers j n d b (front d m) ∙ rw (get_or-set_other kept i j (Some r) None apart)

    pass_takes : Keeps (l ++ (r.now ∷ [])) (set kept i (Some r))
    unfolding more
    pass_takes =
        record {
          size = length-set kept i (Some r) ∙ k.size;
          short = short-more;
          own = λ j n s b h. own' j n s b h (eqb j i) refl;
          answers = λ j n d b h. answers' j n d b h (eqb j i) refl;
        }

  -- by whether it is new and without a tos
  pub pass_first : (is_new (get_or kept i None) r.now && eqb (tos r.now) 0) ≡ true → Keeps (l ++ (r.now ∷ [])) (set kept i (Some r))
  pass_first e =
      pass_takes (eqb-true (tos r.now) 0 (and_right (is_new (get_or kept i None) r.now) (eqb (tos r.now) 0) e))
      (λ s h z. not-both (eqb (dst s.now) (dst r.now)) (eq-eqb (dst s.now) (dst r.now) z) (rw h at (and_left (is_new (get_or kept i None) r.now) (eqb (tos r.now) 0) e)))

  pub pass_later : (is_new (get_or kept i None) r.now && eqb (tos r.now) 0) ≡ false → Keeps (l ++ (r.now ∷ [])) kept
  pass_later e =
      test-case (eqb (tos r.now) 0)
      (λ z. go (get_or kept i None) refl z e)
      (λ z. pass_marked (eqb-false (tos r.now) 0 z))
    where
      go : (o : Option (Bor Row)) → get_or kept i None ≡ o → eqb (tos r.now) 0 ≡ true → (is_new o r.now && eqb (tos r.now) 0) ≡ false → Keeps (l ++ (r.now ∷ [])) kept
      go None h z f = absurd (true-false (eqb (tos r.now) 0) z f)
      go (Some s) h z f =
          pass_stays s h
          (eqb-true (dst s.now) (dst r.now)
          (test-case (eqb (dst s.now) (dst r.now)) (λ x. x) (λ x. absurd (true-false (eqb (tos r.now) 0) z (rw x at f)))))
