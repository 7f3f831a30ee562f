-- What the pieces of a line come to, and how long they are at most.
-- Assumes nothing.
use Rattle.std.specs.Prelude.{ℕ, ◌+◌, ◌/◌, ◌%◌, ◌≤◌, ◌<◌, ◌≡◌, List, [], ◌∷◌, ◌++◌, length, get_or, take}
use Rattle.std.specs.Fmt.{decimal}
use Rattle.std.proofs.Common.{ap, ◌∙◌, append_assoc, append-nil, add-one, take-suc, arith, length-append}
use Rattle.lists.specs.Lists.{Row, each}
use Rattle.lists.specs.Keep.{each_append}
use Rattle.layout.specs.Route.{table, dst, len, tos, priority, kind}
use Rattle.text.specs.Print.{digits, dotted, between, bracketed, ending, line, count_line, refused_line, point, space, opens, closes, line_end, routes_word, refused_word}
use Rattle.text.proofs.Digits.{digits-decimal, count-byte, count_word}

-- ---- lengths
pub length_to : (n c : ℕ) → length (digits n ++ (c ∷ [])) ≡ length (digits n) + 1
length_to n c = length-append (digits n) (c ∷ [])

pub length-between : (a n b : ℕ) → length (between a n b) ≡ length (digits n) + 2
length-between a n b = omega (arith, length_to n b)

pub length-ending : (n : ℕ) → length (ending n) ≡ length (digits n) + 2
length-ending n = simp length-append (omega arith)

pub length-dotted : (ip : ℕ) → length (dotted ip) ≤ 15
unfolding dotted
length-dotted ip =
    simp length-append
    (omega (arith, count-byte (ip / 16777216 % 256) (omega arith), count-byte (ip / 65536 % 256) (omega arith), count-byte (ip / 256 % 256) (omega arith), count-byte (ip % 256) (omega arith)))

pub length_destination : (ip n : ℕ) → length (bracketed ip n) ≡ length (dotted ip) + length (digits n) + 3
length_destination ip n = simp length-append (omega arith)

pub length-count : (n : ℕ) → n < 4294967296 → length (count_line n) ≤ 20
unfolding count_line
length-count n h = omega (arith, length-append routes_word (ending n), length-ending n, count_word n h)

pub length-refused : (n : ℕ) → n < 4294967296 → length (refused_line n) ≤ 21
unfolding refused_line
length-refused n h = omega (arith, length-append refused_word (ending n), length-ending n, count_word n h)

pub length-line : (x : Row) → ((i : ℕ) → get_or x i 0 < 4294967296) → length (line x) ≤ 75
unfolding line
length-line x small =
    let ba = count_word (table x) (small 0) in
    let bb = length-dotted (dst x) in
    let bl = count_word (len x) (small 2) in
    let bc = count_word (kind x) (small 5) in
    let bd = count_word (tos x) (small 3) in
    let be = count_word (priority x) (small 4) in
    simp length-append (omega arith)

-- ---- the pieces that are written
pub dotted-pieces : (ip : ℕ) → decimal (ip / 16777216 % 256) ++ (point ∷ []) ++ decimal (ip / 65536 % 256) ++ (point ∷ []) ++ decimal (ip / 256 % 256) ++ (point ∷ []) ++ decimal (ip % 256) ≡ dotted ip
unfolding dotted
dotted-pieces ip =
    rw (
      digits-decimal (ip / 16777216 % 256) (omega arith),
      digits-decimal (ip / 65536 % 256) (omega arith),
      digits-decimal (ip / 256 % 256) (omega arith),
      digits-decimal (ip % 256) (omega arith),
    )

regrouped : (o t s d l c k n p e : List ℕ) → o ++ t ++ (s ++ o) ++ d ++ s ++ l ++ (c ++ s) ++ k ++ s ++ n ++ s ++ p ++ (c ++ e)
    ≡ (o ++ (t ++ s)) ++ (o ++ (d ++ s) ++ (l ++ c)) ++ (s ++ (k ++ s)) ++ (n ++ s) ++ (p ++ c ++ e)
regrouped o t s d l c k n p e = simp append_assoc

pub line-pieces : (x : Row) → ((i : ℕ) → get_or x i 0 < 4294967296)
    → (opens ∷ []) ++ decimal (table x) ++ (space ∷ opens ∷ []) ++ dotted (dst x) ++ (space ∷ []) ++ decimal (len x) ++ (closes ∷ space ∷ [])
    ++ decimal (kind x) ++ (space ∷ []) ++ decimal (tos x) ++ (space ∷ []) ++ decimal (priority x) ++ (closes ∷ line_end ∷ [])
    ≡ line x
unfolding line
line-pieces x small =
    rw (
      digits-decimal (table x) (small 0),
      digits-decimal (len x) (small 2),
      digits-decimal (kind x) (small 5),
      digits-decimal (tos x) (small 3),
      digits-decimal (priority x) (small 4),
    )
    (regrouped (opens ∷ []) (decimal (table x)) (space ∷ []) (dotted (dst x)) (decimal (len x)) (closes ∷ []) (decimal (kind x)) (decimal (tos x)) (decimal (priority x)) (line_end ∷ []))

pub count-pieces : (n : ℕ) → n < 4294967296 → routes_word ++ decimal n ++ (closes ∷ line_end ∷ []) ≡ count_line n
unfolding count_line
count-pieces n h = rw (digits-decimal n h) (simp append_assoc)

pub refused-pieces : (n : ℕ) → n < 4294967296 → refused_word ++ decimal n ++ (closes ∷ line_end ∷ []) ≡ refused_line n
unfolding refused_line
refused-pieces n h = rw (digits-decimal n h) (simp append_assoc)

-- one row more
pub each-take : (rows : List Row) (i : ℕ) → i < length rows → each line (take (i + 1) rows) ≡ each line (take i rows) ++ line (get_or rows i [])
each-take rows i h =
    rw (add-one, take-suc rows i [] h)
    (each_append line (take i rows) (get_or rows i [] ∷ []) ∙ ap (λ (l : List ℕ). each line (take i rows) ++ l) (append-nil (line (get_or rows i []))))
