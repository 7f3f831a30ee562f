-- Fit lists of routes stay fit when a row is taken out, put in or replaced, and lists of tables when one is listed.
-- Assumes nothing.
use Rattle.std.specs.Prelude.{ℕ, ◌≡◌, refl, Bool, true, false, cond, List, [], ◌∷◌, ◌++◌, eqb}
use Rattle.std.proofs.Common.{ap}
use Rattle.std.proofs.Math.Bool.{not}
use Rattle.lists.specs.Lists.{Row, all, any, keep, first, remove_first, replace_first, eq_row, among}
use Rattle.lists.specs.Bools.{cond-case, not-both, not_so}
use Rattle.lists.specs.All.{all_cons, all_append, all_keep, all-kept, all_mono, all-remove_first, all-replace_first, none_any, any_none, pairwise_append, pairwise-keep, pairwise-remove_first, pairwise_around, pairwise_replaced, pairwise-replacing, eq_row-true, eq_row-sym, not-among}
use Rattle.layout.specs.Route.{fit_route, before, alike}
use Rattle.definition.specs.Words.{ordered, distinct, none_twice}
use Rattle.definition.specs.Reference.Lookup.{main_table, local_table}
use Rattle.definition.specs.Reference.Insert.{ahead, behind, insert4, Inserted, placed, nothing, unplaced, is_row, excl_flag, replace_flag, create_flag, append_flag, add_table, list_table}
use Rattle.definition.specs.Preservation.Fit.{FitRoutes}
use Rattle.definition.specs.Preservation.Order.{before-never, before-after, alike-before, before-alike, alike-sym, alike_refl}

pub keep-fit : (p : Row → Bool) (l : List Row) → FitRoutes l → FitRoutes (keep p l)
unfolding ordered distinct
keep-fit p l f =
    record {
      each = all_keep fit_route p l f.each;
      in_order = pairwise-keep (λ a b. not (before b a)) p l f.in_order;
      apart = pairwise-keep (λ a b. not (eq_row a b)) p l f.apart;
    }

pub remove_first-fit : (p : Row → Bool) (l : List Row) → FitRoutes l → FitRoutes (remove_first p l)
unfolding ordered distinct
remove_first-fit p l f =
    record {
      each = all-remove_first fit_route p l f.each;
      in_order = pairwise-remove_first (λ a b. not (before b a)) p l f.in_order;
      apart = pairwise-remove_first (λ a b. not (eq_row a b)) p l f.apart;
    }

-- a new row, fit and not among the rows
module _ (new : Row) (l : List Row) (f : FitRoutes l) (fit : fit_route new ≡ true) (fresh : any (eq_row new) l ≡ false) where
  new_first : all (λ r. not (eq_row new r)) l ≡ true
  new_first = none_any (eq_row new) (λ r. not (eq_row new r)) l (λ r e. ap not e) fresh

  new_second : all (λ r. not (eq_row r new)) l ≡ true
  new_second = all_mono (λ r. not (eq_row new r)) (λ r. not (eq_row r new)) l (λ r e. eq_row-sym new r e) new_first

  -- around it two sorts of rows, which no row is both of
  between : (p q : Row → Bool) → ((a b : Row) → p a ≡ true → q b ≡ true → not (before b a) ≡ true) → ((a : Row) → p a ≡ true → q a ≡ true → ⊥)
      → ((a : Row) → p a ≡ true → not (before new a) ≡ true) → ((b : Row) → q b ≡ true → not (before b new) ≡ true)
      → FitRoutes (keep p l ++ (new ∷ keep q l))
  unfolding ordered distinct
  between p q o d g h =
      record {
        each = all_append fit_route (keep p l) (new ∷ keep q l) (all_keep fit_route p l f.each) (all_cons fit_route new (keep q l) fit (all_keep fit_route q l f.each));
        in_order = pairwise_around (λ a b. not (before b a)) p q new l o
            (all_mono p (λ a. not (before new a)) (keep p l) g (all-kept p l)) (all_mono q (λ b. not (before b new)) (keep q l) h (all-kept q l)) f.in_order;
        apart = pairwise_around (λ a b. not (eq_row a b)) p q new l
            (λ a b x y. not_so (eq_row a b) (λ e. d b (rw (eq_row-true a b e) at x) y))
            (all_keep (λ a. not (eq_row a new)) p l new_second) (all_keep (λ b. not (eq_row new b)) q l new_first) f.apart;
      }

  pub ahead-fit : FitRoutes (ahead new l)
  unfolding ahead
  ahead-fit =
      between (λ r. before r new) (λ r. not (before r new))
      (λ a b x y. not_so (before b a) (λ z. not-both (before b new) (before-after b a new z x) y))
      (λ a x y. not-both (before a new) x y)
      (λ a x. not_so (before new a) (λ y. before-never a new x y))
      (λ b y. y)

  pub behind-fit : FitRoutes (behind new l)
  unfolding behind
  behind-fit =
      between (λ r. not (before new r)) (λ r. before new r)
      (λ a b x y. not_so (before b a) (λ z. not-both (before new a) (before-after new b a y z) x))
      (λ a x y. not-both (before new a) y x)
      (λ a x. x)
      (λ b y. not_so (before b new) (λ z. before-never new b y z))

  pub replace_fit : FitRoutes (replace_first (alike new) new l)
  unfolding ordered distinct
  replace_fit =
      record {
        each = all-replace_first fit_route (alike new) new l fit f.each;
        in_order = pairwise_replaced (λ a b. not (before b a)) (alike new) new l
            (λ a b x y. not_so (before new b) (λ z. not-both (before a b) (alike-before a new b (alike-sym new a x) z) y))
            (λ a b x y. not_so (before b new) (λ z. not-both (before b a) (before-alike b new a z x) y))
            f.in_order;
        apart = pairwise-replacing (λ a b. not (eq_row a b)) (alike new) new l new_second new_first f.apart;
      }

-- what an insertion makes of fit rows
abbrev pub Puts : Inserted → Type 0
Puts (placed rows flags) = FitRoutes rows
Puts nothing = Unit
Puts (unplaced n) = Unit

-- a row that none is alike is not among them
pub none_equal : (new : Row) (l : List Row) → any (alike new) l ≡ false → any (eq_row new) l ≡ false
none_equal new l h =
    any_none (alike new) (eq_row new) l (λ r e. rw (← eq_row-true new r e) (alike_refl new)) h

pub insert_fit : (new : Row) (flags : ℕ) (l : List Row) → fit_route new ≡ true → FitRoutes l → Puts (insert4 new flags l)
unfolding insert4
insert_fit new flags l fit f =
    cond-case Puts (any (alike new) l)
    (λ a. cond-case Puts (excl_flag flags) (λ b. tt)
    (λ b. cond-case Puts (replace_flag flags)
    (λ c. cond-case Puts (is_row new (first (alike new) l)) (λ d. tt)
    (λ d. cond-case Puts (any (eq_row new) l) (λ e. tt) (λ e. replace_fit new l f fit e)))
    (λ c. cond-case Puts (any (eq_row new) l) (λ e. tt)
    (λ e. cond-case Puts (create_flag flags)
    (λ g. cond-case Puts (append_flag flags) (λ h. behind-fit new l f fit e) (λ h. ahead-fit new l f fit e))
    (λ g. tt)))))
    (λ a. cond-case Puts (create_flag flags) (λ g. ahead-fit new l f fit (none_equal new l a)) (λ g. tt))

-- ---- tables
pub add_table-fit : (t : ℕ) (l : List ℕ) → none_twice l ≡ true → none_twice (add_table t l) ≡ true
unfolding none_twice
add_table-fit t l h =
    cond-case (λ (m : List ℕ). none_twice m ≡ true) (among t l) (λ e. h)
    (λ e. pairwise_append (λ a b. not (eqb a b)) l (t ∷ []) h refl
    (all_mono (λ a. not (eqb a t)) (λ a. all (λ b. not (eqb a b)) (t ∷ [])) l (λ a k. all_cons (λ b. not (eqb a b)) t [] k refl) (not-among t l e)))

pub list_table-fit : (t : ℕ) (l : List ℕ) → none_twice l ≡ true → none_twice (list_table t l) ≡ true
unfolding list_table
list_table-fit t l h =
    add_table-fit t (cond (eqb t local_table) (add_table main_table l) l)
    (cond-case (λ (m : List ℕ). none_twice m ≡ true) (eqb t local_table) (λ e. add_table-fit main_table l h) (λ e. h))
