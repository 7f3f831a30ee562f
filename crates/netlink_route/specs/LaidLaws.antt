-- Runs of words one behind the other, and a part that was lent.
-- Assumes nothing.
use Rattle.std.specs.Prelude.{ℕ, ◌+◌, ◌≤◌, ◌≡◌, List, [], ◌∷◌, ◌++◌, length, take, drop}
use Rattle.std.proofs.Common.{ap, ◌∙◌, append_assoc, arith, length-append, drop-drop}
use Rattle.lists.specs.Lists.{put}
use Rattle.lists.specs.Put.{put-behind}

-- a run behind a run at the front
pub behind : (a b l : List ℕ) (at : ℕ) → at ≡ length a → at + length b ≤ length l → put at b (put 0 a l) ≡ put 0 (a ++ b) l
behind a b l at e h =
    let place : at ≡ 0 + length a = omega arith in
    ap (λ (k : ℕ). put k b (put 0 a l)) place ∙ put-behind 0 a l (omega arith) b (omega arith)

-- four of them
pub laid : (a b d : List ℕ) (up : ℕ) (l s t u v : List ℕ) → s ≡ put 0 a l → t ≡ put 13 b s → u ≡ put 15 d t → v ≡ put 33 (up ∷ []) u
    → length a ≡ 13 → length b ≡ 2 → length d ≡ 18 → 34 ≤ length l → v ≡ put 0 (a ++ (b ++ (d ++ (up ∷ [])))) l
laid a b d up l s t u v e f g h i j k room =
    let one : length (up ∷ []) ≡ 1 = omega arith in
    let ab : length (a ++ b) ≡ 15 = omega (arith, length-append a b) in
    let abd : length ((a ++ b) ++ d) ≡ 33 = omega (arith, length-append (a ++ b) d) in
    h ∙ ap (put 33 (up ∷ [])) (g ∙ ap (put 15 d) (f ∙ ap (put 13 b) e ∙ behind a b l 13 (omega arith) (omega arith)) ∙ behind (a ++ b) d l 15 (omega arith) (omega arith))
    ∙ behind ((a ++ b) ++ d) (up ∷ []) l 33 (omega arith) (omega arith)
    ∙ ap (λ (x : List ℕ). put 0 x l) (append_assoc (a ++ b) d (up ∷ []) ∙ append_assoc a b (d ++ (up ∷ [])))

-- a part that comes back
pub lent : (a b l s v : List ℕ) → s ≡ put 0 a l → v ≡ b → length a ≡ 13 → length b ≡ 36 → 49 ≤ length l
    → take 13 s ++ (v ++ drop 36 (drop 13 s)) ≡ put 0 (a ++ b) l
unfolding put
lent a b l s v e f i j room =
    let count : 13 + 36 ≡ 13 + length b = omega arith in
    let rest : drop 36 (drop 13 s) ≡ drop (13 + length b) s = drop-drop 36 13 s ∙ ap (λ (n : ℕ). drop n s) count in
    (λ t. take 13 (e t) ++ (f t ++ (rest ∙ ap (drop (13 + length b)) e) t)) ∙ behind a b l 13 (omega arith) (omega arith)
