-- An event row: 34 words, what it is, the flags of a new route or 0, the address or route row, zeros (document 01; document 02, Paper 9,
-- for the events of all the device's rows).
use Rattle.std.specs.Prelude.{ℕ, ◌∷◌, ◌++◌}
use Rattle.lists.specs.Lists.{Row, zeros}

-- the words of a row
abbrev pub size : ℕ
size = 34

unfoldable pub new_addr4 : Row → Row
new_addr4 a = 1 ∷ 0 ∷ (a ++ zeros 12)

unfoldable pub del_addr4 : Row → Row
del_addr4 a = 2 ∷ 0 ∷ (a ++ zeros 12)

unfoldable pub new_route4 : Row → ℕ → Row
new_route4 r flags = 3 ∷ flags ∷ r

unfoldable pub del_route4 : Row → Row
del_route4 r = 4 ∷ 0 ∷ r

-- an event that is its number and zeros: of rows that go without an event of each
unfoldable pub bare : ℕ → Row
bare kind = kind ∷ zeros 33

-- the device is down: its rows with a scope other than 254 are gone [down; fib_sync_down_dev]
abbrev pub link_down : Row
link_down = bare 5

-- the last address went: all rows of the device are gone [the end of remove_v4; fib_disable_ip]
abbrev pub ip_disabled : Row
ip_disabled = bare 6
