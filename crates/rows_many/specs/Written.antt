-- The first answers stand in the buffer.
-- Assumes nothing.
use Rattle.std.specs.Prelude.{ℕ, ◌+◌, ◌*◌, ◌≤◌, ◌<◌, ◌≡◌, refl, List, [], ◌∷◌, ◌++◌, map, length, get_or, take, drop, leb, true}
use Rattle.std.proofs.Common.{add-one, arith, ap, ◌∙◌, length-append, take-suc, take_all, take-append-drop, drop-cons}
use Rattle.std.proofs.lemmas.List.{map-append}
use Rattle.lists.specs.Lists.{Row, flat, put}
use Rattle.lists.specs.At.{flat_append, flat-one}
use Rattle.lists.specs.Put.{put-no-rows, put-behind}
use Rattle.definition_many.specs.Many.{rising}
use Rattle.rows_walk.specs.Walked.{pairwise-before}
use Rattle.rows_many.specs.Walks.{Above}

pub record Written (g : ℕ → Row) (ds : List ℕ) (j : ℕ) (s₀ s : List ℕ) : Type 0 where
  pub words : s ≡ put 0 (flat (map g (take j ds))) s₀
  pub long : length (flat (map g (take j ds))) ≡ 33 * j

module _ (g : ℕ → Row) (ds : List ℕ) (s₀ : List ℕ) where
  pub written_start : Written g ds 0 s₀ s₀
  unfolding flat
  written_start = record { words = put-no-rows s₀; long = refl }

  pub written-more : (j : ℕ) {s s' v : List ℕ} → j < length ds → 33 * j + 33 ≤ length s₀ → Written g ds j s₀ s → length v ≡ 33
      → v ≡ g (get_or ds j 0) → s' ≡ put (33 * j) v s → Written g ds (j + 1) s₀ s'
  written-more j {v = v} b c h wide e f =
      let before = flat (map g (take j ds)) in
      let rows : map g (take (j + 1) ds) ≡ map g (take j ds) ++ (v ∷ []) =
      rw (add-one, take-suc ds j 0 b, e) (map-append g (take j ds) (get_or ds j 0 ∷ []))
      in
      let more : flat (map g (take (j + 1) ds)) ≡ before ++ v =
      ap flat rows ∙ flat_append (map g (take j ds)) (v ∷ []) ∙ ap (λ (t : List ℕ). before ++ t) (flat-one v)
      in
      let place : 0 + length before ≡ 33 * j = omega (arith, h.long) in
      record {
        words = f ∙ rw (h.words, more, ← place) (put-behind 0 before s₀ (omega (arith, h.long)) v (omega (arith, h.long)));
        long = ap length more ∙ length-append before v ∙ omega (arith, h.long);
      }

  pub written_end : (j : ℕ) {s : List ℕ} → length ds ≤ j → Written g ds j s₀ s → s ≡ put 0 (flat (map g ds)) s₀
  written_end j e h = rw (take_all j ds e) at h.words

-- the destinations before one are not above it
pub above-before : (ds : List ℕ) (j : ℕ) → j < length ds → rising ds ≡ true → Above (get_or ds j 0) (take j ds)
above-before ds j b h =
    let whole : take j ds ++ (get_or ds j 0 ∷ drop (j + 1) ds) ≡ ds =
    rw (add-one, ← (drop-cons ds j 0 b)) (take-append-drop j ds)
    in
    pairwise-before leb (take j ds) (get_or ds j 0) (drop (j + 1) ds) (rw whole h)
