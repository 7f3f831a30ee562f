-- Events and their messages, byte by byte, and what the reader makes of these.
use Rattle.std.specs.Prelude.{ℕ, ◌≡◌, refl, true, false, List, [], ◌∷◌, ◌++◌, length}
use Rattle.lists.specs.Lists.{Row, zeros}
use Rattle.prefix.specs.Mask.{host_bits}
use Rattle.kind.specs.Kind.{is_kind}
use Rattle.life.specs.Life.{age, left_preferred, left_valid}
use Rattle.endian.specs.Endian.{bytes_of}
use Rattle.layout.specs.Flags.{has_bit}
use Rattle.layout.specs.Address.{fit_address}
use Rattle.layout.specs.Route.{fit_route}
use Rattle.definition.specs.Reference.Source.{left}
use Rattle.netlink.specs.Reader.{asked, read}
use Rattle.netlink_event.specs.Written.{written, written_all, message}
use Rattle.netlink.specs.Cases as Reading
use Rattle.netlink_event.specs.Writer.{address_message, route_message, event_message, writes, write_call}

unfoldable pub computing : Unit {0}
unfolding Reading.computing zeros has_bit host_bits is_kind age left_preferred left_valid left bytes_of fit_address fit_route written written_all message address_message route_message event_message writes write_call
computing = tt

-- ---- a new address: the loopback's own, 127.0.0.1/8 lo, permanent, without broadcast; sequence 7, port 1000
own_event : Row
own_event =
    1 ∷ 0 ∷ 2130706433 ∷ 2130706433 ∷ 8 ∷ 0 ∷ 0 ∷ 254 ∷ 128 ∷ 0 ∷ 2 ∷ 28524 ∷ 0 ∷ 0 ∷ 0 ∷ 0 ∷ 0 ∷ 0 ∷ 0 ∷ 0 ∷ 0 ∷ 0 ∷ zeros 12

own_message : List ℕ
own_message =
    76 ∷ 0 ∷ 0 ∷ 0 ∷ 20 ∷ 0 ∷ 0 ∷ 0 ∷ 7 ∷ 0 ∷ 0 ∷ 0 ∷ 232 ∷ 3 ∷ 0 ∷ 0
    ∷ 2 ∷ 8 ∷ 128 ∷ 254 ∷ 1 ∷ 0 ∷ 0 ∷ 0
    ∷ 8 ∷ 0 ∷ 1 ∷ 0 ∷ 127 ∷ 0 ∷ 0 ∷ 1
    ∷ 8 ∷ 0 ∷ 2 ∷ 0 ∷ 127 ∷ 0 ∷ 0 ∷ 1
    ∷ 7 ∷ 0 ∷ 3 ∷ 0 ∷ 108 ∷ 111 ∷ 0 ∷ 0
    ∷ 20 ∷ 0 ∷ 6 ∷ 0 ∷ 255 ∷ 255 ∷ 255 ∷ 255 ∷ 255 ∷ 255 ∷ 255 ∷ 255 ∷ 0 ∷ 0 ∷ 0 ∷ 0 ∷ 0 ∷ 0 ∷ 0 ∷ 0
    ∷ 8 ∷ 0 ∷ 8 ∷ 0 ∷ 128 ∷ 0 ∷ 0 ∷ 0
    ∷ []

own-written : event_message 7 1000 5 own_event ≡ own_message
unfolding computing own_event own_message
own-written = refl

own-read : read 1 own_message ≡ asked 20 (2130706433 ∷ 2130706433 ∷ 8 ∷ 0 ∷ 0 ∷ 254 ∷ 128 ∷ 0 ∷ 2 ∷ 28524 ∷ 0 ∷ 0 ∷ 0 ∷ 0 ∷ 4294967295 ∷ 4294967295 ∷ 0 ∷ 1 ∷ [])
unfolding computing own_message
own-read = refl

-- ---- a deleted address: 10.6.0.1 with the peer 10.6.0.2/24, a broadcast, an empty label, flags 0x200 (low byte 0), priority 300,
-- proto 3; valid for 100 seconds and preferred for 60, of which 10 have gone
peer_event : Row
peer_event =
    2 ∷ 0 ∷ 168165377 ∷ 168165378 ∷ 24 ∷ 1 ∷ 168165631 ∷ 253 ∷ 512 ∷ 3 ∷ 0 ∷ 0 ∷ 0 ∷ 0 ∷ 0 ∷ 300 ∷ 100 ∷ 60
    ∷ 1000000000 ∷ 0 ∷ 1000000000 ∷ 0 ∷ zeros 12

peer_message : List ℕ
peer_message =
    100 ∷ 0 ∷ 0 ∷ 0 ∷ 21 ∷ 0 ∷ 0 ∷ 0 ∷ 8 ∷ 0 ∷ 0 ∷ 0 ∷ 0 ∷ 0 ∷ 0 ∷ 0
    ∷ 2 ∷ 24 ∷ 0 ∷ 253 ∷ 1 ∷ 0 ∷ 0 ∷ 0
    ∷ 8 ∷ 0 ∷ 1 ∷ 0 ∷ 10 ∷ 6 ∷ 0 ∷ 2
    ∷ 8 ∷ 0 ∷ 2 ∷ 0 ∷ 10 ∷ 6 ∷ 0 ∷ 1
    ∷ 5 ∷ 0 ∷ 3 ∷ 0 ∷ 0 ∷ 0 ∷ 0 ∷ 0
    ∷ 8 ∷ 0 ∷ 4 ∷ 0 ∷ 10 ∷ 6 ∷ 0 ∷ 255
    ∷ 20 ∷ 0 ∷ 6 ∷ 0 ∷ 50 ∷ 0 ∷ 0 ∷ 0 ∷ 90 ∷ 0 ∷ 0 ∷ 0 ∷ 0 ∷ 0 ∷ 0 ∷ 0 ∷ 0 ∷ 0 ∷ 0 ∷ 0
    ∷ 8 ∷ 0 ∷ 8 ∷ 0 ∷ 0 ∷ 2 ∷ 0 ∷ 0
    ∷ 8 ∷ 0 ∷ 9 ∷ 0 ∷ 44 ∷ 1 ∷ 0 ∷ 0
    ∷ 5 ∷ 0 ∷ 11 ∷ 0 ∷ 3 ∷ 0 ∷ 0 ∷ 0
    ∷ []

peer-written : event_message 8 0 11000000000 peer_event ≡ peer_message
unfolding computing peer_event peer_message
peer-written = refl

peer-read : read 1 peer_message ≡ asked 21 (1 ∷ 168165377 ∷ 1 ∷ 168165378 ∷ 24 ∷ 1 ∷ 0 ∷ 0 ∷ 0 ∷ 0 ∷ 0 ∷ [])
unfolding computing peer_message
peer-read = refl

-- ---- a new route: local 127.0.0.0/8 of table 255, prefsrc 127.0.0.1, flags 0x600
local_event : Row
local_event =
    3 ∷ 1536 ∷ 255 ∷ 2130706432 ∷ 8 ∷ 0 ∷ 0 ∷ 2 ∷ 2 ∷ 254 ∷ 1 ∷ 2130706433 ∷ 0 ∷ 0 ∷ 1 ∷ 0 ∷ 0 ∷ zeros 17

local_message : List ℕ
local_message =
    60 ∷ 0 ∷ 0 ∷ 0 ∷ 24 ∷ 0 ∷ 0 ∷ 6 ∷ 9 ∷ 0 ∷ 0 ∷ 0 ∷ 232 ∷ 3 ∷ 0 ∷ 0
    ∷ 2 ∷ 8 ∷ 0 ∷ 0 ∷ 255 ∷ 2 ∷ 254 ∷ 2 ∷ 0 ∷ 0 ∷ 0 ∷ 0
    ∷ 8 ∷ 0 ∷ 1 ∷ 0 ∷ 127 ∷ 0 ∷ 0 ∷ 0
    ∷ 8 ∷ 0 ∷ 4 ∷ 0 ∷ 1 ∷ 0 ∷ 0 ∷ 0
    ∷ 8 ∷ 0 ∷ 7 ∷ 0 ∷ 127 ∷ 0 ∷ 0 ∷ 1
    ∷ 8 ∷ 0 ∷ 15 ∷ 0 ∷ 255 ∷ 0 ∷ 0 ∷ 0
    ∷ []

local-written : event_message 9 1000 0 local_event ≡ local_message
unfolding computing local_event local_message
local-written = refl

local-read : read 1 local_message
    ≡ asked 24 (255 ∷ 2130706432 ∷ 8 ∷ 0 ∷ 0 ∷ 2 ∷ 2 ∷ 254 ∷ 1 ∷ 2130706433 ∷ 0 ∷ 0 ∷ 1 ∷ 0 ∷ 1536 ∷ 0
    ∷ 0 ∷ 0 ∷ 0 ∷ 0 ∷ 0 ∷ 0 ∷ 0 ∷ 0 ∷ 0 ∷ 0 ∷ 0 ∷ 0 ∷ 0 ∷ 0 ∷ 0 ∷ 0 ∷ 0 ∷ 1 ∷ [])
unfolding computing local_message
local-read = refl

-- ---- a new route without a device: blackhole 10.9.0.0/16 tos 8 of table 253
hole_event : Row
hole_event = 3 ∷ 0 ∷ 253 ∷ 168361984 ∷ 16 ∷ 8 ∷ 0 ∷ 6 ∷ 4 ∷ 0 ∷ 0 ∷ 0 ∷ 0 ∷ 0 ∷ 0 ∷ 0 ∷ 0 ∷ zeros 17

hole_message : List ℕ
hole_message =
    44 ∷ 0 ∷ 0 ∷ 0 ∷ 24 ∷ 0 ∷ 0 ∷ 0 ∷ 0 ∷ 0 ∷ 0 ∷ 0 ∷ 0 ∷ 0 ∷ 0 ∷ 0
    ∷ 2 ∷ 16 ∷ 0 ∷ 8 ∷ 253 ∷ 4 ∷ 0 ∷ 6 ∷ 0 ∷ 0 ∷ 0 ∷ 0
    ∷ 8 ∷ 0 ∷ 1 ∷ 0 ∷ 10 ∷ 9 ∷ 0 ∷ 0
    ∷ 8 ∷ 0 ∷ 15 ∷ 0 ∷ 253 ∷ 0 ∷ 0 ∷ 0
    ∷ []

hole-written : event_message 0 0 0 hole_event ≡ hole_message
unfolding computing hole_event hole_message
hole-written = refl

-- ---- a deleted route of length 0 in table 1000, via 10.0.0.254 onlink, priority 1024, with the metrics 1 (1400) and 16 (7)
default_event : Row
default_event =
    4 ∷ 0 ∷ 1000 ∷ 0 ∷ 0 ∷ 0 ∷ 1024 ∷ 1 ∷ 3 ∷ 0 ∷ 0 ∷ 0 ∷ 1 ∷ 167772414 ∷ 1 ∷ 1 ∷ 1
    ∷ 0 ∷ 1400 ∷ 0 ∷ 0 ∷ 0 ∷ 0 ∷ 0 ∷ 0 ∷ 0 ∷ 0 ∷ 0 ∷ 0 ∷ 0 ∷ 0 ∷ 0 ∷ 0 ∷ 7 ∷ []

default_message : List ℕ
default_message =
    80 ∷ 0 ∷ 0 ∷ 0 ∷ 25 ∷ 0 ∷ 0 ∷ 0 ∷ 10 ∷ 0 ∷ 0 ∷ 0 ∷ 0 ∷ 0 ∷ 0 ∷ 0
    ∷ 2 ∷ 0 ∷ 0 ∷ 0 ∷ 252 ∷ 3 ∷ 0 ∷ 1 ∷ 4 ∷ 0 ∷ 0 ∷ 0
    ∷ 8 ∷ 0 ∷ 4 ∷ 0 ∷ 1 ∷ 0 ∷ 0 ∷ 0
    ∷ 8 ∷ 0 ∷ 5 ∷ 0 ∷ 10 ∷ 0 ∷ 0 ∷ 254
    ∷ 8 ∷ 0 ∷ 6 ∷ 0 ∷ 0 ∷ 4 ∷ 0 ∷ 0
    ∷ 20 ∷ 0 ∷ 8 ∷ 0 ∷ 8 ∷ 0 ∷ 2 ∷ 0 ∷ 120 ∷ 5 ∷ 0 ∷ 0 ∷ 8 ∷ 0 ∷ 17 ∷ 0 ∷ 7 ∷ 0 ∷ 0 ∷ 0
    ∷ 8 ∷ 0 ∷ 15 ∷ 0 ∷ 232 ∷ 3 ∷ 0 ∷ 0
    ∷ []

default-written : event_message 10 0 0 default_event ≡ default_message
unfolding computing default_event default_message
default-written = refl

default-read : read 1 default_message
    ≡ asked 25 (1000 ∷ 0 ∷ 0 ∷ 0 ∷ 1024 ∷ 1 ∷ 3 ∷ 0 ∷ 0 ∷ 0 ∷ 1 ∷ 167772414 ∷ 1 ∷ 1 ∷ 2 ∷ 1 ∷ 1400 ∷ 16 ∷ 7
    ∷ 0 ∷ 0 ∷ 0 ∷ 0 ∷ 0 ∷ 0 ∷ 0 ∷ 0 ∷ 0 ∷ 0 ∷ 0 ∷ 0 ∷ 0 ∷ 0 ∷ 0 ∷ 0 ∷ 0 ∷ 0 ∷ 0 ∷ 0 ∷ 0 ∷ 0 ∷ 0 ∷ 0 ∷ 0 ∷ 0 ∷ 0 ∷ 0 ∷ 0 ∷ 0 ∷ [])
unfolding computing default_message
default-read = refl

-- ---- 216 bytes are taken: every attribute and every metric
full_event : Row
full_event =
    3 ∷ 65535 ∷ 4294967295 ∷ 167772160 ∷ 8 ∷ 255 ∷ 1 ∷ 1 ∷ 255 ∷ 255 ∷ 1 ∷ 1 ∷ 1 ∷ 1 ∷ 1 ∷ 1 ∷ 1
    ∷ 1 ∷ 2 ∷ 3 ∷ 4 ∷ 5 ∷ 6 ∷ 7 ∷ 8 ∷ 9 ∷ 10 ∷ 11 ∷ 12 ∷ 13 ∷ 14 ∷ 15 ∷ 16 ∷ 17 ∷ []

full-length : length (event_message 1 1 1 full_event) ≡ 216
unfolding computing full_event
full-length = refl

-- ---- a label with a zero byte inside, `a\0b`, is written whole and read back cut
zero_event : Row
zero_event =
    1 ∷ 0 ∷ 2130706433 ∷ 2130706433 ∷ 8 ∷ 0 ∷ 0 ∷ 254 ∷ 128 ∷ 0 ∷ 3 ∷ 6422625 ∷ 0 ∷ 0 ∷ 0 ∷ 0 ∷ 0 ∷ 0 ∷ 0 ∷ 0 ∷ 0 ∷ 0 ∷ zeros 12

zero-read : read 1 (event_message 0 0 0 zero_event)
    ≡ asked 20 (2130706433 ∷ 2130706433 ∷ 8 ∷ 0 ∷ 0 ∷ 254 ∷ 128 ∷ 0 ∷ 1 ∷ 97 ∷ 0 ∷ 0 ∷ 0 ∷ 0 ∷ 4294967295 ∷ 4294967295 ∷ 0 ∷ 1 ∷ [])
unfolding computing zero_event
zero-read = refl

-- ---- what is refused
own-taken : writes own_event ≡ true
unfolding computing own_event
own-taken = refl

peer-taken : writes peer_event ≡ true
unfolding computing peer_event
peer-taken = refl

local-taken : writes local_event ≡ true
unfolding computing local_event
local-taken = refl

hole-taken : writes hole_event ≡ true
unfolding computing hole_event
hole-taken = refl

default-taken : writes default_event ≡ true
unfolding computing default_event
default-taken = refl

full-taken : writes full_event ≡ true
unfolding computing full_event
full-taken = refl

zero-taken : writes zero_event ≡ true
unfolding computing zero_event
zero-taken = refl

-- kinds 0, 5 and 6, flags of 17 bits, a prefix of 33 bits, a route with host bits, a kind of route that there isn't, 33 words
kind_0 : writes (zeros 34) ≡ false
unfolding computing
kind_0 = refl

kind_5 : writes (5 ∷ zeros 33) ≡ false
unfolding computing
kind_5 = refl

kind_6 : writes (6 ∷ zeros 33) ≡ false
unfolding computing
kind_6 = refl

wide-flags : writes (3 ∷ 65536 ∷ 255 ∷ 2130706432 ∷ 8 ∷ 0 ∷ 0 ∷ 2 ∷ 2 ∷ 254 ∷ 1 ∷ 2130706433 ∷ 0 ∷ 0 ∷ 1 ∷ 0 ∷ 0 ∷ zeros 17) ≡ false
unfolding computing
wide-flags = refl

long-prefix : writes (1 ∷ 0 ∷ 2130706433 ∷ 2130706433 ∷ 33 ∷ zeros 29) ≡ false
unfolding computing
long-prefix = refl

host-bits : writes (3 ∷ 0 ∷ 255 ∷ 2130706433 ∷ 8 ∷ 0 ∷ 0 ∷ 2 ∷ zeros 26) ≡ false
unfolding computing
host-bits = refl

no_kind : writes (4 ∷ 0 ∷ 255 ∷ 2130706432 ∷ 8 ∷ 0 ∷ 0 ∷ 99 ∷ zeros 26) ≡ false
unfolding computing
no_kind = refl

one-short : writes (1 ∷ 0 ∷ 2130706433 ∷ 2130706433 ∷ 8 ∷ zeros 28) ≡ false
unfolding computing
one-short = refl

-- words behind an address row are not looked at
spare-words : writes (1 ∷ 0 ∷ 2130706433 ∷ 2130706433 ∷ 8 ∷ (zeros 17 ++ (1 ∷ 2 ∷ 3 ∷ 4 ∷ 5 ∷ 6 ∷ 7 ∷ 8 ∷ 9 ∷ 10 ∷ 11 ∷ 12 ∷ []))) ≡ true
unfolding computing
spare-words = refl
