-- A pass over rows laid out as words, a row at a time as a lent part: searches by a test.
-- Assumes nothing.
use Rattle.std.specs.Prelude.{ℕ, suc, ◌+◌, ◌-◌, ◌*◌, ◌≤◌, ◌<◌, ◌≡◌, Bool, true, false, List, [], length, get_or, take, drop}
use Rattle.std.proofs.Math.Nat.{eq_of_mul-eq-mul_right}
use Rattle.std.proofs.Common.{mul_comm, add-zero, arith, add-one, sym, ap, ◌∙◌, drop_of_length-le, drop-cons}
use Rattle.lists.specs.Lists.{Row, any, chop}
use Rattle.lists.specs.Place.{place_of, place_here, place-past}
use Rattle.lists.specs.Laid.{Laid, Lays, laid-length, laid-part, laid-fit, laid-width}
use Rattle.lists.specs.Chop.{chop-at}

-- the row at place i, as it is lent
abbrev pub part : ℕ → List ℕ → ℕ → List ℕ
part k w i = take (k * i + k - k * i) (drop (k * i) w)

-- it is the row of those chopped off
pub part-chop : (k n : ℕ) (w : List ℕ) (i : ℕ) → i < n → part k w i ≡ get_or (chop k n w) i []
part-chop k n w i h =
    let size : k * i + k - k * i ≡ k = omega arith in
    ap (λ (m : ℕ). take m (drop (k * i) w)) size ∙ chop-at k n w i h

module _ {k : ℕ} {fit : Row → Bool} (w : List ℕ) (n : ℕ) (some : 0 < k) (long : length w ≡ k * n) where
  pub laid-rows : (l : List Row) → Laid k fit w l → length l ≡ n
  laid-rows l h =
      eq_of_mul-eq-mul_right k some (length l) n (mul_comm (length l) k ∙ sym (laid-length h) ∙ long ∙ mul_comm k n)

  -- a part is a row that fits
  pub part-width : Lays k fit w → (i : ℕ) → i < n → length (part k w i) ≡ k
  part-width y i b =
      let b' : i < length y.list = omega (arith, laid-rows y.list y.laid) in
      rw (laid-part y.laid i b') (laid-width y.laid i b')

  pub part-fit : Lays k fit w → (i : ℕ) → i < n → fit (part k w i) ≡ true
  part-fit y i b =
      let b' : i < length y.list = omega (arith, laid-rows y.list y.laid) in
      rw (laid-part y.laid i b') (laid-fit y.laid i b')

  module _ (p : Row → Bool) (l : List Row) (h : Laid k fit w l) (i : ℕ) where
    -- the place of the first row that passes
    module _ (sofar : place_of p l ≡ i + place_of p (drop i l)) where
      pub find_here : i < n → p (part k w i) ≡ true → i ≡ place_of p l
      find_here b e =
          let b' : i < length l = omega (arith, laid-rows l h) in
          sym (sofar ∙ ap (λ (m : ℕ). i + m) (place_here p l i [] b' (rw (laid-part h i b') at e)) ∙ add-zero i)

      pub find_past : i < n → p (part k w i) ≡ false → place_of p l ≡ i + 1 + place_of p (drop (i + 1) l)
      find_past b e =
          let b' : i < length l = omega (arith, laid-rows l h) in
          let one : place_of p (drop i l) ≡ suc (place_of p (drop (i + 1) l)) = place-past p l i [] b' (rw (laid-part h i b') at e) in
          omega arith

      pub find_end : i ≤ n → n ≤ i → n ≡ place_of p l
      find_end b c =
          let none : drop i l ≡ [] = drop_of_length-le l {i = i} (omega (arith, laid-rows l h)) in
          let nought : place_of p (drop i l) ≡ 0 = ap (place_of p) none in
          omega arith

    -- whether some row passes
    module _ (sofar : any p l ≡ any p (drop i l)) where
      pub some-here : i < n → p (part k w i) ≡ true → true ≡ any p l
      some-here b e =
          let b' : i < length l = omega (arith, laid-rows l h) in
          let f : p (get_or l i []) ≡ true = rw (laid-part h i b') at e in
          sym (sofar ∙ rw (drop-cons l i [], f))

      pub some-past : i < n → p (part k w i) ≡ false → any p l ≡ any p (drop (i + 1) l)
      some-past b e =
          let b' : i < length l = omega (arith, laid-rows l h) in
          let f : p (get_or l i []) ≡ false = rw (laid-part h i b') at e in
          sofar ∙ rw (add-one, drop-cons l i [], f)

      pub some_end : n ≤ i → false ≡ any p l
      some_end c =
          sym (sofar ∙ ap (any p) (drop_of_length-le l {i = i} (omega (arith, laid-rows l h))))
