-- The order of routes is a strict one, and alike rows have one place in it.
-- Assumes nothing.
use Rattle.std.specs.Prelude.{ℕ, ◌≡◌, refl, Bool, true, false, ◌&&◌, ◌||◌, eqb, ltb}
use Rattle.std.proofs.Common.{sym, ◌∙◌, arith, ltb-true, ltb-false, lt-ltb, eqb-true, eq-eqb}
use Rattle.lists.specs.Lists.{Row}
use Rattle.lists.specs.Bools.{or-false, and_rest, and_left, and_right, and_both, and_iff, or_case, or_left, or_right}
use Rattle.layout.specs.Route.{before, alike, table, dst, len, tos, priority}

-- a strict order with the test that two have one place in it
record Strict (lt eq : Row → Row → Bool) : Type 0 where
  never : (a b : Row) → lt a b ≡ true → lt b a ≡ true → ⊥
  after : (a b c : Row) → lt a b ≡ true → lt b c ≡ true → lt a c ≡ true
  left : (a b c : Row) → eq a b ≡ true → lt b c ≡ true → lt a c ≡ true
  right : (a b c : Row) → lt a b ≡ true → eq b c ≡ true → lt a c ≡ true
  turn : (a b : Row) → eq a b ≡ true → eq b a ≡ true
  same : (a b c : Row) → eq a b ≡ true → eq b c ≡ true → eq a c ≡ true
  level : (a b : Row) → lt a b ≡ false → lt b a ≡ false → eq a b ≡ true

rising : (f : Row → ℕ) → Strict (λ a b. ltb (f a) (f b)) (λ a b. eqb (f a) (f b))
rising f =
    record {
      never = λ a b h k. omega (arith, ltb-true (f a) (f b) h, ltb-true (f b) (f a) k);
      after = λ a b c h k. lt-ltb (f a) (f c) (omega (arith, ltb-true (f a) (f b) h, ltb-true (f b) (f c) k));
      left = λ a b c h k. lt-ltb (f a) (f c) (omega (arith, eqb-true (f a) (f b) h, ltb-true (f b) (f c) k));
      right = λ a b c h k. lt-ltb (f a) (f c) (omega (arith, ltb-true (f a) (f b) h, eqb-true (f b) (f c) k));
      turn = λ a b h. eq-eqb (f b) (f a) (sym (eqb-true (f a) (f b) h));
      same = λ a b c h k. eq-eqb (f a) (f c) (eqb-true (f a) (f b) h ∙ eqb-true (f b) (f c) k);
      level = λ a b h k. eq-eqb (f a) (f b) (omega (arith, ltb-false (f a) (f b) h, ltb-false (f b) (f a) k));
    }

falling : (f : Row → ℕ) → Strict (λ a b. ltb (f b) (f a)) (λ a b. eqb (f a) (f b))
falling f =
    let s = rising f in
    record {
      never = λ a b h k. s.never b a h k;
      after = λ a b c h k. s.after c b a k h;
      left = λ a b c h k. s.right c b a k (s.turn a b h);
      right = λ a b c h k. s.left c b a (s.turn b c k) h;
      turn = s.turn;
      same = s.same;
      level = λ a b h k. s.level a b k h;
    }

-- one order, and within one place of it another
module _ (lt eq lt' eq' : Row → Row → Bool) (s : Strict lt eq) (t : Strict lt' eq') where
  abbrev within : Row → Row → Bool
  within a b = lt a b || (eq a b && lt' a b)

  abbrev both : Row → Row → Bool
  both a b = eq a b && eq' a b

  split : (a b : Row) {C : Type 0} → within a b ≡ true → (lt a b ≡ true → C) → (eq a b ≡ true → lt' a b ≡ true → C) → C
  split a b h f g =
      or_case (lt a b) (eq a b && lt' a b) h f (λ e. g (and_left (eq a b) (lt' a b) e) (and_right (eq a b) (lt' a b) e))

  by_first : (a b : Row) → lt a b ≡ true → within a b ≡ true
  by_first a b h = or_left (lt a b) (eq a b && lt' a b) h

  by-second : (a b : Row) → eq a b ≡ true → lt' a b ≡ true → within a b ≡ true
  by-second a b e h = or_right (lt a b) (eq a b && lt' a b) (and_both (eq a b) (lt' a b) e h)

  one : (a b : Row) → both a b ≡ true → eq a b ≡ true
  one a b h = and_left (eq a b) (eq' a b) h

  two : (a b : Row) → both a b ≡ true → eq' a b ≡ true
  two a b h = and_right (eq a b) (eq' a b) h

  lexical : Strict (λ a b. lt a b || (eq a b && lt' a b)) (λ a b. eq a b && eq' a b)
  lexical =
      record {
        never = λ a b h k.
            split a b h
            (λ x. split b a k (λ y. s.never a b x y) (λ y z. s.never a a (s.right a b a x y) (s.right a b a x y)))
            (λ x u. split b a k (λ y. s.never b b (s.right b a b y x) (s.right b a b y x)) (λ y z. t.never a b u z));
        after = λ a b c h k.
            split a b h
            (λ x. split b c k (λ y. by_first a c (s.after a b c x y)) (λ y z. by_first a c (s.right a b c x y)))
            (λ x u. split b c k (λ y. by_first a c (s.left a b c x y)) (λ y z. by-second a c (s.same a b c x y) (t.after a b c u z)));
        left = λ a b c h k.
            split b c k (λ y. by_first a c (s.left a b c (one a b h) y))
            (λ y z. by-second a c (s.same a b c (one a b h) y) (t.left a b c (two a b h) z));
        right = λ a b c h k.
            split a b h (λ x. by_first a c (s.right a b c x (one b c k)))
            (λ x u. by-second a c (s.same a b c x (one b c k)) (t.right a b c u (two b c k)));
        turn = λ a b h. and_both (eq b a) (eq' b a) (s.turn a b (one a b h)) (t.turn a b (two a b h));
        same = λ a b c h k.
            and_both (eq a c) (eq' a c) (s.same a b c (one a b h) (one b c k)) (t.same a b c (two a b h) (two b c k));
        level = λ a b h k.
            let x = or-false (lt a b) (eq a b && lt' a b) h in
            let y = or-false (lt b a) (eq b a && lt' b a) k in
            let e : eq a b ≡ true = s.level a b x.0 y.0 in
            and_both (eq a b) (eq' a b) e
            (t.level a b (and_rest (eq a b) (lt' a b) e x.1) (and_rest (eq b a) (lt' b a) (s.turn a b e) y.1));
      }

-- ---- the order of routes
alike' : Row → Row → Bool
alike' a b = eqb (dst a) (dst b) && (eqb (len a) (len b) && (eqb (table a) (table b) && (eqb (tos a) (tos b) && eqb (priority a) (priority b))))

order : Strict before alike'
unfolding before alike'
order =
    lexical _ _ _ _ (rising dst) (lexical _ _ _ _ (falling len) (lexical _ _ _ _ (falling table) (lexical _ _ _ _ (falling tos) (rising priority))))

one_place : (a b : Row) → alike a b ≡ true → alike' a b ≡ true
unfolding alike alike'
one_place a b h =
    let k = simp and_iff at h in
    simp and_iff (k.0.0.0.1, (k.0.0.1, (k.0.0.0.0, (k.0.1, k.1))))

pub before-never : (a b : Row) → before a b ≡ true → before b a ≡ true → ⊥
before-never = order.never

pub before-after : (a b c : Row) → before a b ≡ true → before b c ≡ true → before a c ≡ true
before-after = order.after

pub alike-before : (a b c : Row) → alike a b ≡ true → before b c ≡ true → before a c ≡ true
alike-before a b c h k = order.left a b c (one_place a b h) k

pub before-alike : (a b c : Row) → before a b ≡ true → alike b c ≡ true → before a c ≡ true
before-alike a b c h k = order.right a b c h (one_place b c k)

-- two rows neither of which is before the other are alike
pub level-alike : (a b : Row) → before a b ≡ false → before b a ≡ false → alike a b ≡ true
unfolding alike alike'
level-alike a b h k =
    let l = simp and_iff at (order.level a b h k) in
    simp and_iff ((((l.1.1.0, l.0), l.1.0), l.1.1.1.0), l.1.1.1.1)

pub alike-sym : (a b : Row) → alike a b ≡ true → alike b a ≡ true
unfolding alike alike'
alike-sym a b h =
    let k = simp and_iff at (order.turn a b (one_place a b h)) in
    simp and_iff ((((k.1.1.0, k.0), k.1.0), k.1.1.1.0), k.1.1.1.1)

pub alike_refl : (a : Row) → alike a a ≡ true
unfolding alike
alike_refl a =
    simp and_iff ((((eq-eqb (table a) (table a) refl, eq-eqb (dst a) (dst a) refl), eq-eqb (len a) (len a) refl), eq-eqb (tos a) (tos a) refl), eq-eqb (priority a) (priority a) refl)
