-- Behind the words of the lists that a step left stand the counts: settled, or as they were.
-- Assumes nothing.
use Rattle.std.specs.Prelude.{ℕ, ◌<◌, ◌≡◌, Bool, true, false, cond, List, ◌++◌, length, get_or, drop}
use Rattle.std.proofs.Common.{arith, sym, ap, ◌∙◌, take_at, drop_at, drop-drop, length-append, length-drop}
use Rattle.lists.specs.Lists.{put}
use Rattle.std.proofs.Math.ListN.{get_or-append}
use Rattle.definition.specs.Words.{base_size, count_size, row_counts_at, state_size, decode, well_formed, base, state_of, counted, row_counts}
use Rattle.definition_parts.proofs.Counting.{counted-behind}
use Rattle.state_count.specs.Count.{parts}

-- the words after a call on w whose step left the lists v, by whether they changed
abbrev pub leaving : Bool → List ℕ → List ℕ → List ℕ
leaving changes w v = v ++ cond changes (counted true w ++ row_counts (decode v)) (drop base_size w)

module _ (w v : List ℕ) (long : length v ≡ base_size) where
  abbrev lent : List ℕ
  lent = v ++ drop base_size w

  -- the counts of the lists are read before what is behind
  pub in-lists : (i : ℕ) → i < base_size → get_or lent i 0 ≡ get_or v i 0
  in-lists i h = get_or-append v (drop base_size w) 0 i (omega (arith, long))

  pub settled : (b : Bool) {x : List ℕ} → b ≡ true → (well_formed (base lent) ≡ true → x ≡ base lent ++ (counted true lent ++ row_counts (state_of lent)))
      → well_formed v ≡ true → x ≡ leaving b w v
  settled b e h well =
      let lists : base lent ≡ v = take_at v (drop base_size w) base_size long in
      rw (e, h (ap well_formed lists ∙ well), lists, counted-behind true v w long)

  -- the change alone counted, where the row counts are still true
  pub counted-alone : (b : Bool) {x : List ℕ} → length w ≡ state_size → b ≡ true → x ≡ put base_size (counted true lent) lent → row_counts (decode v) ≡ drop row_counts_at w
      → x ≡ leaving b w v
  counted-alone b {x} whole e raised still =
      let lists : base lent ≡ v = take_at v (drop base_size w) base_size long in
      let behind : drop row_counts_at lent ≡ drop row_counts_at w =
      sym (drop-drop count_size base_size lent) ∙ ap (drop count_size) (drop_at v (drop base_size w) base_size long) ∙ drop-drop count_size base_size w
      in
      rw (e, still) (rw (lists, counted-behind true v w long, behind) at (parts lent x (simp (length-append, length-drop) (omega (arith, long, whole))) raised))

  pub unsettled : (b : Bool) → b ≡ false → well_formed v ≡ true → lent ≡ leaving b w v
  unsettled b e well = rw e
