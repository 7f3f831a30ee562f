-- What the pieces of an address's message come to.
-- Assumes nothing.
use Rattle.std.specs.Prelude.{ℕ, ◌+◌, ◌≤◌, ◌≡◌, true, List, [], ◌∷◌, ◌++◌, length, take, drop, replicate}
use Rattle.std.proofs.Common.{sym, ap, ap₂, ◌∙◌, arith, length-append, length-drop, length-take-le}
use Rattle.lists.specs.Lists.{Row, put, zeros}
use Rattle.lists.specs.Put.{put_whole}
use Rattle.lists.specs.Rows.{length-zeros}
use Rattle.life.specs.declared.Left.{Left}
use Rattle.endian.specs.Endian.{bytes_of}
use Rattle.endian.specs.Laws.{Below, length-bytes_of}
use Rattle.layout.specs.Address as Address
use Rattle.layout.specs.Address.{fit_address}
use Rattle.row_address.specs.declared.V4.{V4}
use Rattle.row_address.specs.V4.{v4_of, left_v4}
use Rattle.row_address.specs.Laws.{left-preferred_v4, left-valid_v4}
use Rattle.netlink_event.specs.Written.{bytes4, written_all}
use Rattle.netlink_event.specs.Writer.{label_bytes, cacheinfo, address_entries}
use Rattle.netlink_write.specs.Parts.{label_entry, cacheinfo_entry}
use Rattle.netlink_event.proofs.Back.{at-most}
use Rattle.netlink_event.proofs.Fit.{fit-address}
use Rattle.netlink_event.proofs.LabelBack.{closed, bytes-short}
use Rattle.netlink_event.proofs.AddressBack.{address-total}

-- ---- the label's words as bytes
module _ (a : Row) (fit : fit_address a ≡ true) (small : Below 4294967296 a) {b : List ℕ}
    (e : b ≡ put 0 (bytes_of (take 4 (drop 9 a))) (replicate 16 0)) where
  sixteen : length (bytes_of (take 4 (drop 9 a))) ≡ 16
  sixteen =
      let f = fit-address a fit in
      let rest : length (drop 9 a) ≡ 11 = omega (arith, length-drop 9 a, f.long) in
      let four : length (take 4 (drop 9 a)) ≡ 4 = length-take-le 4 (drop 9 a) (omega arith) in
      omega (arith, length-bytes_of (take 4 (drop 9 a)), four)

  is : b ≡ bytes_of (take 4 (drop 9 a))
  is = e ∙ put_whole (bytes_of (take 4 (drop 9 a))) (replicate 16 0) sixteen

  pub label-room : Address.label_length a + 1 ≤ length b
  label-room = let f = fit-address a fit in omega (arith, ap length is, sixteen, f.short)

  pub label-part : Address.label_length a + 1 ≡ length (take (Address.label_length a + 1) b)
  label-part = sym (length-take-le (Address.label_length a + 1) b label-room)

  pub label-payload : take (Address.label_length a + 1) b ≡ label_bytes a ++ (0 ∷ [])
  label-payload = ap (take (Address.label_length a + 1)) is ∙ closed a (fit-address a fit) small

-- ---- lifetimes
pub cacheinfo-payload : (a : Row) (now : ℕ) {v : V4} {b : Left} → v ≡ v4_of a → b ≡ left_v4 v now
    → bytes4 b.preferred.0 ++ (bytes4 b.valid.0 ++ (0 ∷ 0 ∷ 0 ∷ 0 ∷ 0 ∷ 0 ∷ 0 ∷ 0 ∷ [])) ≡ cacheinfo now a
unfolding zeros
cacheinfo-payload a now {v} {b} e f =
    let is : b ≡ left_v4 (v4_of a) now = f ∙ ap (λ (u : V4). left_v4 u now) e in
    ap₂ (λ (p q : ℕ). bytes4 p ++ (bytes4 q ++ zeros 8)) (ap (λ (y : Left). y.preferred.0) is ∙ left-preferred_v4 a now) (ap (λ (y : Left). y.valid.0) is ∙ left-valid_v4 a now)

pub address-bound : (now : ℕ) (a : Row) → fit_address a ≡ true → length (written_all (address_entries now a)) ≤ 88
address-bound now a fit = omega (arith, at-most (address_entries now a), address-total now a (fit-address a fit))

pub label-bound : (a : Row) → fit_address a ≡ true → length (written_all (label_entry a ∷ [])) ≤ 20
label-bound a fit =
    omega (arith, at-most (label_entry a ∷ []), length-append (label_bytes a) (0 ∷ []), bytes-short a (fit-address a fit))

pub cacheinfo-bound : (now : ℕ) (a : Row) → length (written_all (cacheinfo_entry now a ∷ [])) ≤ 20
cacheinfo-bound now a = omega (arith, at-most (cacheinfo_entry now a ∷ []), length-zeros 8)
