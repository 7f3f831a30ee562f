-- Messages that `ip` sends, read off the socket.
use Rattle.std.specs.Prelude.{ℕ, ◌≡◌, refl, List, [], ◌∷◌}
use Rattle.lists.specs.Lists.{zeros, pad}
use Rattle.layout.specs.Flags.{has_bit}
use Rattle.netlink.specs.Attributes.{whole, first, parsed_from, last_after}
use Rattle.netlink.specs.Reader.{asked, headed, lengths, sizes, new_addr, del_addr, new_route, del_route, metrics_asked, pairs_asked, request, shape_refusal, refusal, read}

unfoldable pub computing : Unit {0}
unfolding zeros pad has_bit whole first parsed_from last_after headed lengths sizes new_addr del_addr new_route del_route metrics_asked pairs_asked request shape_refusal refusal read
computing = tt

-- ip addr add 10.6.0.1/24 dev lo scope link label lo:alias
aliased : List ℕ
aliased = 56 ∷ 0 ∷ 0 ∷ 0 ∷ 20 ∷ 0 ∷ 5 ∷ 6 ∷ 192 ∷ 18 ∷ 250 ∷ 106 ∷ 0 ∷ 0 ∷ 0 ∷ 0 ∷ 2 ∷ 24 ∷ 0 ∷ 253 ∷ 1 ∷ 0 ∷ 0 ∷ 0 ∷ 8 ∷ 0 ∷ 2 ∷ 0 ∷ 10 ∷ 6 ∷ 0 ∷ 1 ∷ 13 ∷ 0 ∷ 3 ∷ 0 ∷ 108 ∷ 111 ∷ 58 ∷ 97 ∷ 108 ∷ 105 ∷ 97 ∷ 115 ∷ 0 ∷ 0 ∷ 0 ∷ 0 ∷ 8 ∷ 0 ∷ 1 ∷ 0 ∷ 10 ∷ 6 ∷ 0 ∷ 1 ∷ []

-- ip addr del 10.6.0.1/24 dev lo label lo:alias
unaliased : List ℕ
unaliased = 56 ∷ 0 ∷ 0 ∷ 0 ∷ 21 ∷ 0 ∷ 5 ∷ 0 ∷ 192 ∷ 18 ∷ 250 ∷ 106 ∷ 0 ∷ 0 ∷ 0 ∷ 0 ∷ 2 ∷ 24 ∷ 0 ∷ 0 ∷ 1 ∷ 0 ∷ 0 ∷ 0 ∷ 8 ∷ 0 ∷ 2 ∷ 0 ∷ 10 ∷ 6 ∷ 0 ∷ 1 ∷ 13 ∷ 0 ∷ 3 ∷ 0 ∷ 108 ∷ 111 ∷ 58 ∷ 97 ∷ 108 ∷ 105 ∷ 97 ∷ 115 ∷ 0 ∷ 0 ∷ 0 ∷ 0 ∷ 8 ∷ 0 ∷ 1 ∷ 0 ∷ 10 ∷ 6 ∷ 0 ∷ 1 ∷ []

-- ip route add 10.24.0.0/16 dev lo mtu lock 1400 window 9 initcwnd 10
locked : List ℕ
locked = 80 ∷ 0 ∷ 0 ∷ 0 ∷ 24 ∷ 0 ∷ 5 ∷ 6 ∷ 192 ∷ 18 ∷ 250 ∷ 106 ∷ 0 ∷ 0 ∷ 0 ∷ 0 ∷ 2 ∷ 16 ∷ 0 ∷ 0 ∷ 254 ∷ 3 ∷ 253 ∷ 1 ∷ 0 ∷ 0 ∷ 0 ∷ 0 ∷ 8 ∷ 0 ∷ 1 ∷ 0 ∷ 10 ∷ 24 ∷ 0 ∷ 0 ∷ 8 ∷ 0 ∷ 4 ∷ 0 ∷ 1 ∷ 0 ∷ 0 ∷ 0 ∷ 36 ∷ 0 ∷ 8 ∷ 0 ∷ 8 ∷ 0 ∷ 2 ∷ 0 ∷ 120 ∷ 5 ∷ 0 ∷ 0 ∷ 8 ∷ 0 ∷ 3 ∷ 0 ∷ 9 ∷ 0 ∷ 0 ∷ 0 ∷ 8 ∷ 0 ∷ 11 ∷ 0 ∷ 10 ∷ 0 ∷ 0 ∷ 0 ∷ 8 ∷ 0 ∷ 1 ∷ 0 ∷ 4 ∷ 0 ∷ 0 ∷ 0 ∷ []

-- ip route del 10.21.0.0/16 metric 10
gone : List ℕ
gone = 44 ∷ 0 ∷ 0 ∷ 0 ∷ 25 ∷ 0 ∷ 5 ∷ 0 ∷ 192 ∷ 18 ∷ 250 ∷ 106 ∷ 0 ∷ 0 ∷ 0 ∷ 0 ∷ 2 ∷ 16 ∷ 0 ∷ 0 ∷ 254 ∷ 0 ∷ 255 ∷ 0 ∷ 0 ∷ 0 ∷ 0 ∷ 0 ∷ 8 ∷ 0 ∷ 1 ∷ 0 ∷ 10 ∷ 21 ∷ 0 ∷ 0 ∷ 8 ∷ 0 ∷ 6 ∷ 0 ∷ 10 ∷ 0 ∷ 0 ∷ 0 ∷ []

aliased-read : read 1 (aliased) ≡ asked 20 (168165377 ∷ 168165377 ∷ 24 ∷ 0 ∷ 0 ∷ 253 ∷ 0 ∷ 0 ∷ 8 ∷ 1631219564 ∷ 1935763820 ∷ 0 ∷ 0 ∷ 0 ∷ 4294967295 ∷ 4294967295 ∷ 0 ∷ 1 ∷ [])
unfolding computing aliased
aliased-read = refl

unaliased-read : read 1 (unaliased) ≡ asked 21 (1 ∷ 168165377 ∷ 1 ∷ 168165377 ∷ 24 ∷ 1 ∷ 8 ∷ 1631219564 ∷ 1935763820 ∷ 0 ∷ 0 ∷ [])
unfolding computing unaliased
unaliased-read = refl

locked-read : read 1 (locked) ≡ asked 24 (254 ∷ 169345024 ∷ 16 ∷ 0 ∷ 0 ∷ 1 ∷ 3 ∷ 253 ∷ 0 ∷ 0 ∷ 0 ∷ 0 ∷ 1 ∷ 0 ∷ 1541 ∷ 0 ∷ 4 ∷ 1400 ∷ 9 ∷ 0 ∷ 0 ∷ 0 ∷ 0 ∷ 0 ∷ 0 ∷ 0 ∷ 10 ∷ 0 ∷ 0 ∷ 0 ∷ 0 ∷ 0 ∷ 0 ∷ 1 ∷ [])
unfolding computing locked
locked-read = refl

gone-read : read 1 (gone) ≡ asked 25 (254 ∷ 169148416 ∷ 16 ∷ 0 ∷ 10 ∷ 0 ∷ 0 ∷ 255 ∷ 0 ∷ 0 ∷ 0 ∷ 0 ∷ 0 ∷ 1 ∷ 0 ∷ 0 ∷ 0 ∷ 0 ∷ 0 ∷ 0 ∷ 0 ∷ 0 ∷ 0 ∷ 0 ∷ 0 ∷ 0 ∷ 0 ∷ 0 ∷ 0 ∷ 0 ∷ 0 ∷ 0 ∷ 0 ∷ 0 ∷ 0 ∷ 0 ∷ 0 ∷ 0 ∷ 0 ∷ 0 ∷ 0 ∷ 0 ∷ 0 ∷ 0 ∷ 0 ∷ 0 ∷ 0 ∷ 0 ∷ 0 ∷ [])
unfolding computing gone
gone-read = refl

-- the first of them with an attribute that has no field (10, of two bytes) before its label
extra : List ℕ
extra = 64 ∷ 0 ∷ 0 ∷ 0 ∷ 20 ∷ 0 ∷ 5 ∷ 6 ∷ 192 ∷ 18 ∷ 250 ∷ 106 ∷ 0 ∷ 0 ∷ 0 ∷ 0 ∷ 2 ∷ 24 ∷ 0 ∷ 253 ∷ 1 ∷ 0 ∷ 0 ∷ 0 ∷ 8 ∷ 0 ∷ 2 ∷ 0 ∷ 10 ∷ 6 ∷ 0 ∷ 1
    ∷ 6 ∷ 0 ∷ 10 ∷ 0 ∷ 7 ∷ 7 ∷ 0 ∷ 0 ∷ 13 ∷ 0 ∷ 3 ∷ 0 ∷ 108 ∷ 111 ∷ 58 ∷ 97 ∷ 108 ∷ 105 ∷ 97 ∷ 115 ∷ 0 ∷ 0 ∷ 0 ∷ 0 ∷ 8 ∷ 0 ∷ 1 ∷ 0 ∷ 10 ∷ 6 ∷ 0 ∷ 1 ∷ []

extra-read : read 1 extra ≡ read 1 aliased
unfolding computing extra aliased
extra-read = refl
