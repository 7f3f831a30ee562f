-- The numbers of a message, as netlink(7), rtnetlink(7) and the Linux headers have them.
use Rattle.std.specs.Prelude.{ℕ}

-- ---- the header's types
abbrev pub rtm_new_addr : ℕ
rtm_new_addr = 20

abbrev pub rtm_del_addr : ℕ
rtm_del_addr = 21

abbrev pub rtm_new_route : ℕ
rtm_new_route = 24

abbrev pub rtm_del_route : ℕ
rtm_del_route = 25

-- AF_INET
abbrev pub inet : ℕ
inet = 2

-- NLM_F_REPLACE and NLM_F_EXCL, by the number of their bit
abbrev pub replace_bit : ℕ
replace_bit = 8

abbrev pub excl_bit : ℕ
excl_bit = 9

-- ---- attributes of an address
abbrev pub ifa_address : ℕ
ifa_address = 1

abbrev pub ifa_local : ℕ
ifa_local = 2

abbrev pub ifa_label : ℕ
ifa_label = 3

abbrev pub ifa_broadcast : ℕ
ifa_broadcast = 4

abbrev pub ifa_cacheinfo : ℕ
ifa_cacheinfo = 6

abbrev pub ifa_flags : ℕ
ifa_flags = 8

abbrev pub ifa_rt_priority : ℕ
ifa_rt_priority = 9

abbrev pub ifa_proto : ℕ
ifa_proto = 11

-- ---- attributes of a route
abbrev pub rta_dst : ℕ
rta_dst = 1

abbrev pub rta_oif : ℕ
rta_oif = 4

abbrev pub rta_gateway : ℕ
rta_gateway = 5

abbrev pub rta_priority : ℕ
rta_priority = 6

abbrev pub rta_prefsrc : ℕ
rta_prefsrc = 7

abbrev pub rta_metrics : ℕ
rta_metrics = 8

abbrev pub rta_table : ℕ
rta_table = 15

-- the greatest type of a metric (RTAX_MAX)
abbrev pub rtax_max : ℕ
rtax_max = 17
