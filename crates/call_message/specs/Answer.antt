-- The numbers of what a reading answers, the request of a message, and what is written.
use Rattle.std.specs.Prelude.{ℕ, ◌≡◌, ◌≢◌, ◌&&◌, List, Result, Ok, Err, length}
use Rattle.lists.specs.Lists.{Row, all, put}
use Rattle.definition.specs.Call.{Numbers}
use Rattle.refusal.specs.declared.Refusal.{Refusal}
use Rattle.refusal.specs.Refusal as Refusals
use Rattle.netlink.specs.Attributes.{attributes, right}
use Rattle.netlink.specs.Codes.{rtm_new_route}
use Rattle.netlink.specs.Reader.{family, nested_right, sized_in, sizes, request}
use Rattle.netlink.specs.Types.{number_of}
use Rattle.netlink.specs.declared.MessageType.{MessageType}
use Rattle.netlink_refusal.specs.Order.{judged, body_of}
use Rattle.call_message.specs.declared.Asked.{Asked}

abbrev pub asked_by : Asked → Numbers
asked_by a = record { number = 0; present = 0; value = number_of a.kind; second = a.words }

abbrev pub request_of : ℕ → MessageType → List ℕ → ℕ → Row
request_of up kind m end = request up m (number_of kind) (attributes (body_of (number_of kind) m end))

-- what refuses a message whose header passed, by its bytes and those of its attributes
abbrev pub address_number : ℕ → List ℕ → List ℕ → ℕ
address_number t m b = judged (family m) (right b) (sizes t (attributes b))

abbrev pub route_number : List ℕ → List ℕ → ℕ
route_number m b = judged (family m) (right b && all nested_right (attributes b)) (all (sized_in rtm_new_route) (attributes b))

-- a row is written where the number is 0, and else nothing
abbrev pub Filled : ℕ → Row → List ℕ → Result (Unit {0}) Refusal → List ℕ → Type 0
Filled n row old (Ok u) new = (n ≡ 0) × (new ≡ put 0 row old)
Filled n row old (Err e) new = (Refusals.number_of e ≡ n) × ((n ≢ 0) × (new ≡ old))

-- a row is written, of a type, where the number is 0, and else nothing
abbrev pub Wrote : ℕ → ℕ → Row → List ℕ → Result Asked Refusal → List ℕ → Type 0
Wrote t n row old (Ok a) new = (n ≡ 0) × ((number_of a.kind ≡ t) × ((a.words ≡ length row) × (new ≡ put 0 row old)))
Wrote t n row old (Err e) new = (Refusals.number_of e ≡ n) × ((n ≢ 0) × (new ≡ old))
