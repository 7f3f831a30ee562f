-- A message read on bytes is one read on words, whose request is given back as bytes.
-- Assumes nothing.
use Rattle.std.specs.Prelude.{ℕ, ◌*◌, ◌≤◌, ◌<◌, ◌≡◌, List, leb, length, take}
use Rattle.std.proofs.Common.{arith, sym, ap, ◌∙◌, leb-true, le-leb}
use Rattle.lists.specs.Lists.{flat, put}
use Rattle.lists.specs.Bools.{cond-true, cond-false, fails}
use Rattle.endian.specs.Endian.{bytes_of}
use Rattle.layout.specs.Request.{del_route4_size}
use Rattle.definition.specs.Call.{Reply, refusal}
use Rattle.call_message.specs.Message.{read_call, read_on_bytes}
use Rattle.call_message.specs.Laws.{counted}
use Rattle.interface4.specs.Made.{rows-front, no_rows}

module _ (room up : ℕ) (m : List ℕ) where
  -- too few bytes
  pub unread : room < 4 * del_route4_size → read_on_bytes room up m ≡ refusal 200
  unread h = cond-false (leb (4 * del_route4_size) room) (read_call del_route4_size up m) (refusal 200) (fails (leb (4 * del_route4_size) room) (λ e. omega (arith, leb-true (4 * del_route4_size) room e)))

  pub unread-rows : room < 4 * del_route4_size → (b : List ℕ) → b ≡ put 0 (bytes_of (flat (read_on_bytes room up m).rows)) b
  unread-rows h b = no_rows b ∙ ap (λ (r : Reply). put 0 (bytes_of (flat r.rows)) b) (sym (unread h))

  module _ (h : 4 * del_route4_size ≤ room) where
    pub on-words : read_on_bytes room up m ≡ read_call del_route4_size up m
    on-words = cond-true (leb (4 * del_route4_size) room) (read_call del_route4_size up m) (refusal 200) (le-leb (4 * del_route4_size) room h)

    -- as many words as the reply says are given back
    pub on-words-rows : (q q' b b' : List ℕ) (n : ℕ) → n ≡ (read_call del_route4_size up m).second → q' ≡ put 0 (flat (read_call del_route4_size up m).rows) q
        → b' ≡ put 0 (bytes_of (take (1 * n) q')) b → b' ≡ put 0 (bytes_of (flat (read_on_bytes room up m).rows)) b
    on-words-rows q q' b b' n e f g =
        let rows = (read_call del_route4_size up m).rows in
        let long : 1 * n ≡ length (flat rows) = omega (arith, e, (counted del_route4_size up m).words) in
        g ∙ ap (λ (x : List ℕ). put 0 (bytes_of x) b) (rows-front (flat rows) q' q (1 * n) long f)
        ∙ ap (λ (r : Reply). put 0 (bytes_of (flat r.rows)) b) (sym on-words)
