-- What the fields are once all attributes are taken, and the words that they give.
-- Assumes nothing.
use Rattle.std.specs.Prelude.{ℕ, ◌≡◌, refl, Bool, true, false, ◌&&◌, not, List, [], ◌∷◌, Option, None, is_some, unwrap_or, get_or}
use Rattle.std.specs.List.{fold}
use Rattle.std.proofs.Common.{sym, ap, ◌∙◌}
use Rattle.std.proofs.Math.Option as Math
use Rattle.lists.specs.Lists.{all}
use Rattle.lists.specs.All.{all_mono}
use Rattle.lists.specs.Bools.{and_iff, and_left, test-case}
use Rattle.netlink.specs.Codes.{rtm_new_addr, rtm_del_addr, ifa_address, ifa_local, ifa_label, ifa_broadcast, ifa_cacheinfo, ifa_flags, ifa_rt_priority, ifa_proto}
use Rattle.netlink.specs.Attributes.{Attribute, last}
use Rattle.netlink.specs.Reader.{address, number, byte, preferred_in, valid_in, label_words, label_or, lo, sized_in, sizes, given, or_else, optional, flag, forever, message_flags, new_addr, del_addr}
use Rattle.layout.specs.Flags.{has_bit}
use Rattle.netlink.specs.Codes.{replace_bit, excl_bit}
use Rattle.netlink_attributes.specs.Kept.{fits, long, placed, chosen, kept, part, flagged}
use Rattle.netlink_address.specs.declared.new_addr.NewAddr.{NewAddr}
use Rattle.netlink_address.specs.declared.del_addr.DelAddr.{DelAddr}
use Rattle.netlink_address.specs.Steps.{short_label, some_address, marked_address, words_in, new_addr_step, del_addr_step}
use Rattle.netlink_address.specs.Words.{new_addr_begun, del_addr_begun, new_addr_words, del_addr_words}

and_true : (b : Bool) → b && true ≡ b
and_true true = refl
and_true false = refl

-- ---- an address that may be there
module _ (o : Math.Option (List ℕ)) where
  address-or : (d : ℕ) → unwrap_or (chosen some_address None o) d ≡ or_else address d o
  address-or d = elim o as (λ o. unwrap_or (chosen some_address None o) d ≡ or_else address d o) [ Math.none ↦ refl | Math.some p ↦ refl ]

  address-given : is_some (chosen some_address None o) ≡ given o
  address-given = elim o as (λ o. is_some (chosen some_address None o) ≡ given o) [ Math.none ↦ refl | Math.some p ↦ refl ]

  pair-or : chosen marked_address (0 ∷ 0 ∷ []) o ≡ optional address o
  pair-or = elim o as (λ o. chosen marked_address (0 ∷ 0 ∷ []) o ≡ optional address o) [ Math.none ↦ refl | Math.some p ↦ refl ]

  number-or : (f : List ℕ → ℕ) (d : ℕ) → chosen f d o ≡ or_else f d o
  number-or f d = elim o as (λ o. chosen f d o ≡ or_else f d o) [ Math.none ↦ refl | Math.some p ↦ refl ]

  label-or : (d : List ℕ) → chosen words_in (label_words d) o ≡ label_words (label_or d o)
  label-or d = elim o as (λ o. chosen words_in (label_words d) o ≡ label_words (label_or d o)) [ Math.none ↦ refl | Math.some p ↦ refl ]

  label-given : chosen (λ p. true) false o ≡ given o
  label-given = elim o as (λ o. chosen (λ p. true) false o ≡ given o) [ Math.none ↦ refl | Math.some p ↦ refl ]

-- ---- a new address
record Fit (a : Attribute) : Type 0 where
  pub cacheinfo : fits ifa_cacheinfo (long 16) a ≡ true
  pub proto : fits ifa_proto (long 1) a ≡ true
  pub address : fits ifa_address (long 4) a ≡ true
  pub local : fits ifa_local (long 4) a ≡ true
  pub broadcast : fits ifa_broadcast (long 4) a ≡ true
  pub flags : fits ifa_flags (long 4) a ≡ true
  pub priority : fits ifa_rt_priority (long 4) a ≡ true
  pub label : fits ifa_label short_label a ≡ true

fit : (a : Attribute) → sized_in rtm_new_addr a ≡ true → Fit a
fit a h =
    let t = simp and_iff at h in
    record { cacheinfo = t.0.0; proto = t.0.1.0; address = t.0.1.1.0; local = t.0.1.1.1.0; broadcast = t.0.1.1.1.1.0; flags = t.0.1.1.1.1.1.0; priority = t.0.1.1.1.1.1.1.0; label = t.1 }

module _ (m : List ℕ) (l : List Attribute) where
  abbrev taken : NewAddr
  taken = fold new_addr_step (new_addr_begun m) l

  is-sized : taken.extras.is_sized ≡ all (sized_in rtm_new_addr) l
  is-sized = part new_addr_step (λ s. s.extras.is_sized) (λ b a. b && sized_in rtm_new_addr a) (λ s a. refl) (new_addr_begun m) l ∙ flagged (sized_in rtm_new_addr) true l

  module _ (h : all (sized_in rtm_new_addr) l ≡ true) where
    local-is : taken.local ≡ chosen some_address None (last ifa_local l)
    local-is = part new_addr_step (λ s. s.local) (placed ifa_local (long 4) some_address) (λ s a. refl) (new_addr_begun m) l
        ∙ kept ifa_local some_address (long 4) None l (all_mono (sized_in rtm_new_addr) (fits ifa_local (long 4)) l (λ a e. (fit a e).local) h)

    address-is : taken.address ≡ chosen some_address None (last ifa_address l)
    address-is = part new_addr_step (λ s. s.address) (placed ifa_address (long 4) some_address) (λ s a. refl) (new_addr_begun m) l
        ∙ kept ifa_address some_address (long 4) None l (all_mono (sized_in rtm_new_addr) (fits ifa_address (long 4)) l (λ a e. (fit a e).address) h)

    broadcast-is : taken.extras.broadcast ≡ chosen marked_address (0 ∷ 0 ∷ []) (last ifa_broadcast l)
    broadcast-is = part new_addr_step (λ s. s.extras.broadcast) (placed ifa_broadcast (long 4) marked_address) (λ s a. refl) (new_addr_begun m) l
        ∙ kept ifa_broadcast marked_address (long 4) (0 ∷ 0 ∷ []) l (all_mono (sized_in rtm_new_addr) (fits ifa_broadcast (long 4)) l (λ a e. (fit a e).broadcast) h)

    flags-is : taken.extras.flags ≡ chosen number (get_or m 18 0) (last ifa_flags l)
    flags-is = part new_addr_step (λ s. s.extras.flags) (placed ifa_flags (long 4) number) (λ s a. refl) (new_addr_begun m) l
        ∙ kept ifa_flags number (long 4) (get_or m 18 0) l (all_mono (sized_in rtm_new_addr) (fits ifa_flags (long 4)) l (λ a e. (fit a e).flags) h)

    proto-is : taken.extras.proto ≡ chosen byte 0 (last ifa_proto l)
    proto-is = part new_addr_step (λ s. s.extras.proto) (placed ifa_proto (long 1) byte) (λ s a. refl) (new_addr_begun m) l
        ∙ kept ifa_proto byte (long 1) 0 l (all_mono (sized_in rtm_new_addr) (fits ifa_proto (long 1)) l (λ a e. (fit a e).proto) h)

    label-is : taken.extras.label ≡ chosen words_in (label_words lo) (last ifa_label l)
    label-is = part new_addr_step (λ s. s.extras.label) (placed ifa_label short_label words_in) (λ s a. refl) (new_addr_begun m) l
        ∙ kept ifa_label words_in short_label (label_words lo) l (all_mono (sized_in rtm_new_addr) (fits ifa_label short_label) l (λ a e. (fit a e).label) h)

    priority-is : taken.extras.priority ≡ chosen number 0 (last ifa_rt_priority l)
    priority-is = part new_addr_step (λ s. s.extras.priority) (placed ifa_rt_priority (long 4) number) (λ s a. refl) (new_addr_begun m) l
        ∙ kept ifa_rt_priority number (long 4) 0 l (all_mono (sized_in rtm_new_addr) (fits ifa_rt_priority (long 4)) l (λ a e. (fit a e).priority) h)

    preferred-is : taken.extras.preferred ≡ chosen preferred_in 4294967295 (last ifa_cacheinfo l)
    preferred-is = part new_addr_step (λ s. s.extras.preferred) (placed ifa_cacheinfo (long 16) preferred_in) (λ s a. refl) (new_addr_begun m) l
        ∙ kept ifa_cacheinfo preferred_in (long 16) 4294967295 l (all_mono (sized_in rtm_new_addr) (fits ifa_cacheinfo (long 16)) l (λ a e. (fit a e).cacheinfo) h)

    valid-is : taken.extras.valid ≡ chosen valid_in 4294967295 (last ifa_cacheinfo l)
    valid-is = part new_addr_step (λ s. s.extras.valid) (placed ifa_cacheinfo (long 16) valid_in) (λ s a. refl) (new_addr_begun m) l
        ∙ kept ifa_cacheinfo valid_in (long 16) 4294967295 l (all_mono (sized_in rtm_new_addr) (fits ifa_cacheinfo (long 16)) l (λ a e. (fit a e).cacheinfo) h)

  -- the sizes are right where every attribute has its size and a local one is there
  pub new_addr-sizes : taken.extras.is_sized && is_some taken.local ≡ sizes rtm_new_addr l
  unfolding sizes
  new_addr-sizes =
      test-case (all (sized_in rtm_new_addr) l)
      (λ w. rw (is-sized, w, local-is w) (address-given (last ifa_local l)))
      (λ w. rw (is-sized, w))

  pub new_addr-words : (up : ℕ) → sizes rtm_new_addr l ≡ true → new_addr_words up m taken ≡ new_addr up m l
  unfolding sizes new_addr
  new_addr-words up h =
      let w : all (sized_in rtm_new_addr) l ≡ true = and_left (all (sized_in rtm_new_addr) l) (given (last ifa_local l)) h in
      let local-word : unwrap_or taken.local 0 ≡ or_else address 0 (last ifa_local l) =
      ap (λ (o : Option ℕ). unwrap_or o 0) (local-is w) ∙ address-or (last ifa_local l) 0
      in
      let address-word : unwrap_or taken.address (unwrap_or taken.local 0) ≡ or_else address (or_else address 0 (last ifa_local l)) (last ifa_address l) =
      (λ i. unwrap_or (address-is w i) (local-word i)) ∙ address-or (last ifa_address l) (or_else address 0 (last ifa_local l))
      in
      let broadcast-row = broadcast-is w ∙ pair-or (last ifa_broadcast l) in
      let flags-word = flags-is w ∙ number-or (last ifa_flags l) number (get_or m 18 0) in
      let proto-word = proto-is w ∙ number-or (last ifa_proto l) byte 0 in
      let label-row = label-is w ∙ label-or (last ifa_label l) lo in
      let priority-word = priority-is w ∙ number-or (last ifa_rt_priority l) number 0 in
      let valid-word = valid-is w ∙ number-or (last ifa_cacheinfo l) valid_in forever in
      let preferred-word = preferred-is w ∙ number-or (last ifa_cacheinfo l) preferred_in forever in
      λ i.
      local-word i
      ∷ address-word i
      ∷ get_or m 17 0
      ∷ get_or (broadcast-row i) 0 0
      ∷ get_or (broadcast-row i) 1 0
      ∷ get_or m 19 0
      ∷ flags-word i
      ∷ proto-word i
      ∷ get_or (label-row i) 0 0
      ∷ get_or (label-row i) 1 0
      ∷ get_or (label-row i) 2 0
      ∷ get_or (label-row i) 3 0
      ∷ get_or (label-row i) 4 0
      ∷ priority-word i
      ∷ valid-word i
      ∷ preferred-word i
      ∷ flag (has_bit replace_bit (message_flags m) && not (has_bit excl_bit (message_flags m)))
      ∷ up
      ∷ []

-- ---- an address to delete
record FitDeleted (a : Attribute) : Type 0 where
  pub address : fits ifa_address (long 4) a ≡ true
  pub local : fits ifa_local (long 4) a ≡ true
  pub label : fits ifa_label short_label a ≡ true

fit-deleted : (a : Attribute) → sized_in rtm_del_addr a ≡ true → FitDeleted a
fit-deleted a h = let t = simp and_iff at h in record { address = t.0.0; local = t.0.1.0; label = t.1 }

module _ (l : List Attribute) where
  abbrev deleted : DelAddr
  deleted = fold del_addr_step del_addr_begun l

  pub del_addr-sizes : deleted.is_sized ≡ sizes rtm_del_addr l
  unfolding sizes
  del_addr-sizes =
      part del_addr_step (λ s. s.is_sized) (λ b a. b && sized_in rtm_del_addr a) (λ s a. refl) del_addr_begun l
      ∙ flagged (sized_in rtm_del_addr) true l
      ∙ sym (and_true (all (sized_in rtm_del_addr) l))

  module _ (h : all (sized_in rtm_del_addr) l ≡ true) where
    deleted-local : deleted.local ≡ chosen marked_address (0 ∷ 0 ∷ []) (last ifa_local l)
    deleted-local = part del_addr_step (λ s. s.local) (placed ifa_local (long 4) marked_address) (λ s a. refl) del_addr_begun l
        ∙ kept ifa_local marked_address (long 4) (0 ∷ 0 ∷ []) l (all_mono (sized_in rtm_del_addr) (fits ifa_local (long 4)) l (λ a e. (fit-deleted a e).local) h)

    deleted-address : deleted.address ≡ chosen marked_address (0 ∷ 0 ∷ []) (last ifa_address l)
    deleted-address = part del_addr_step (λ s. s.address) (placed ifa_address (long 4) marked_address) (λ s a. refl) del_addr_begun l
        ∙ kept ifa_address marked_address (long 4) (0 ∷ 0 ∷ []) l (all_mono (sized_in rtm_del_addr) (fits ifa_address (long 4)) l (λ a e. (fit-deleted a e).address) h)

    deleted-has_label : deleted.has_label ≡ chosen (λ p. true) false (last ifa_label l)
    deleted-has_label = part del_addr_step (λ s. s.has_label) (placed ifa_label short_label (λ p. true)) (λ s a. refl) del_addr_begun l
        ∙ kept ifa_label (λ p. true) short_label false l (all_mono (sized_in rtm_del_addr) (fits ifa_label short_label) l (λ a e. (fit-deleted a e).label) h)

    deleted-label : deleted.label ≡ chosen words_in (label_words []) (last ifa_label l)
    deleted-label = part del_addr_step (λ s. s.label) (placed ifa_label short_label words_in) (λ s a. refl) del_addr_begun l
        ∙ kept ifa_label words_in short_label (label_words []) l (all_mono (sized_in rtm_del_addr) (fits ifa_label short_label) l (λ a e. (fit-deleted a e).label) h)

  pub del_addr-words : (m : List ℕ) → sizes rtm_del_addr l ≡ true → del_addr_words m deleted ≡ del_addr m l
  unfolding sizes del_addr
  del_addr-words m h =
      let w : all (sized_in rtm_del_addr) l ≡ true = and_left (all (sized_in rtm_del_addr) l) true h in
      let local-row = deleted-local w ∙ pair-or (last ifa_local l) in
      let address-row = deleted-address w ∙ pair-or (last ifa_address l) in
      let has-label = ap flag (deleted-has_label w ∙ label-given (last ifa_label l)) in
      let label-row = deleted-label w ∙ label-or (last ifa_label l) [] in
      λ i.
      get_or (local-row i) 0 0
      ∷ get_or (local-row i) 1 0
      ∷ get_or (address-row i) 0 0
      ∷ get_or (address-row i) 1 0
      ∷ get_or m 17 0
      ∷ has-label i
      ∷ get_or (label-row i) 0 0
      ∷ get_or (label-row i) 1 0
      ∷ get_or (label-row i) 2 0
      ∷ get_or (label-row i) 3 0
      ∷ get_or (label-row i) 4 0
      ∷ []
