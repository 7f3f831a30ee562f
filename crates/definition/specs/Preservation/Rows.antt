-- The rows that the reference makes are fit.
-- Assumes nothing.
use Rattle.std.specs.Prelude.{ℕ, suc, ◌-◌, ◌*◌, ◌/◌, ◌%◌, ◌^◌, ◌<◌, ◌≡◌, refl, Bool, true, false, cond, not, ◌&&◌, ◌||◌, List, [], ◌∷◌, ◌++◌, eqb, leb, ltb, length, take, drop}
use Rattle.std.proofs.Common.{sym, ap, ◌∙◌, zero-add, arith, length-append, length-take, length-drop, eqb-true, eq-eqb}
use Rattle.std.proofs.Math.Nat.{zero-mod, add-mul-mod_self_right, mod-one}
use Rattle.std.proofs.lemmas.Bool.{eqb-false, not-false}
use Rattle.lists.specs.Lists.{Row, all, zeros}
use Rattle.lists.specs.Bools.{and_iff, or-false, cond-case}
use Rattle.lists.specs.All.{all_append, all_cons}
use Rattle.lists.specs.Rows.{sized, length-zeros}
use Rattle.prefix.specs.Mask.{network, host_bits, broadcast}
use Rattle.kind.specs.Kind.{is_kind, error_of, least_scope}
use Rattle.layout.specs.Address as Address
use Rattle.layout.specs.Address.{fit_address, prefix, set_flags, set_proto, set_priority}
use Rattle.layout.specs.Spelled.{spelled, by-words}
use Rattle.layout.specs.Route as Route
use Rattle.layout.specs.Route.{fit_route, dst, len, kind}
use Rattle.layout.specs.Event.{new_addr4, del_addr4, new_route4, del_route4, bare}
use Rattle.layout.specs.Request.{valid_asked, preferred_asked, fit_add_v4, fit_add_route4, metrics_error}
use Rattle.definition.specs.Reference.Lookup.{local_kind, broadcast_kind}
use Rattle.definition.specs.Reference.Addresses.{names_broadcast, own_network, link_scope, host_scope, primary_of, kernel_route, local_route, prefix_route, up_routes, candidates, only, set_life, asked, as_secondary, changed_to}
use Rattle.definition.specs.Reference.Removal.{deprecate}
use Rattle.definition.specs.Reference.Routes.{form_check, bad_prefix, asked_route, mark, then, refuse, dead_flags, unsupported, onlink_flag}
use Rattle.definition.specs.Preservation.Fit.{fields_address, fields_request, address_fields, length-address, length-route}

-- ---- addresses
-- other flags, priority, lifetimes and stamps, and a byte for the proto, leave a row fit
set_flags-fit : (n : ℕ) (a : Row) → fit_address a ≡ true → fit_address (set_flags n a) ≡ true
unfolding fit_address
set_flags-fit n a h = by-words (λ r. fit_address r ≡ true → fit_address (set_flags n r) ≡ true) 20 a (length-address a h) (λ k. k) h

pub as_secondary-fit : (a : Row) → fit_address a ≡ true → fit_address (as_secondary a) ≡ true
unfolding as_secondary
as_secondary-fit a h = set_flags-fit _ a h

pub deprecate-fit : (a : Row) → fit_address a ≡ true → fit_address (deprecate a) ≡ true
unfolding deprecate
deprecate-fit a h = set_flags-fit _ a h

pub set_life-fit : (valid preferred now : ℕ) (a : Row) → fit_address a ≡ true → fit_address (set_life valid preferred now a) ≡ true
unfolding set_life fit_address
set_life-fit valid preferred now a h =
    by-words (λ r. fit_address r ≡ true → fit_address (set_life valid preferred now r) ≡ true) 20 a (length-address a h) (λ k. k) h

pub changed_to-fit : (q old : Row) (now : ℕ) → fit_add_v4 q ≡ true → fit_address old ≡ true → fit_address (changed_to q old now) ≡ true
unfolding changed_to
changed_to-fit q old now g h =
    set_life-fit (valid_asked q) (preferred_asked q) now _
    (by-words (λ r. fit_address r ≡ true → fit_address (set_proto (Address.proto q) (set_priority (Address.priority q) r)) ≡ true) 20 old (length-address old h)
    (λ k. let f = fields_address _ k in address_fields _ refl (record { short = f.short; announced = f.announced; wide = f.wide; by = (fields_request q g).by; labelled = f.labelled })) h)

-- the row of a request
pub asked-fit : (q : Row) (now : ℕ) → length q ≡ 18 → fit_add_v4 q ≡ true → fit_address (asked q now) ≡ true
unfolding asked set_life zeros
asked-fit q now long h =
    by-words (λ r. fit_add_v4 r ≡ true → fit_address (asked r now) ≡ true) 18 q long
    (λ k. let f = fields_request (spelled 18 q) k in address_fields _ refl (record { short = f.short; announced = f.announced; wide = f.wide; by = f.by; labelled = f.labelled })) h

-- ---- the kernel's routes
host_bits-network : (a p : ℕ) → host_bits (network a p) p ≡ 0
unfolding host_bits network
host_bits-network a p =
    let m : ℕ = 2 ^ (32 - p) in
    ap (λ (x : ℕ). x % m) (sym (zero-add (a / m * m))) ∙ add-mul-mod_self_right 0 (a / m) m ∙ zero-mod m

host_bits-none : (a : ℕ) → host_bits a 32 ≡ 0
unfolding host_bits
host_bits-none a = mod-one a

behind_fifteen : (n : ℕ) → n ≡ 17 → eqb (suc (suc (suc (suc (suc (suc (suc (suc (suc (suc (suc (suc (suc (suc (suc n))))))))))))))) 32 ≡ true
behind_fifteen n h = rw h

pub kernel_route-fit : (dst len priority kind source : ℕ) → leb len 32 ≡ true → host_bits dst len ≡ 0 → is_kind kind ≡ true
    → fit_route (kernel_route dst len priority kind source) ≡ true
unfolding fit_route kernel_route
kernel_route-fit dst len priority kind source h z k =
    let scoped : ltb (cond (eqb kind broadcast_kind) link_scope host_scope) 256 ≡ true =
    cond-case (λ (x : ℕ). ltb x 256 ≡ true) (eqb kind broadcast_kind) (λ e. refl) (λ e. refl)
    in
    simp and_iff
    (((((((((((behind_fifteen (length (zeros 17)) (length-zeros 17), h), eq-eqb (host_bits dst len) 0 z), refl), k), refl), scoped), (refl, refl)), (refl, refl)), refl), refl), refl)

pub local_route-fit : (source : ℕ) (a : Row) → fit_route (local_route source a) ≡ true
unfolding local_route is_kind
local_route-fit source a = kernel_route-fit (Address.local a) 32 0 local_kind source refl (host_bits-none (Address.local a)) refl

broadcast-fit : (ip source : ℕ) → fit_route (kernel_route ip 32 0 broadcast_kind source) ≡ true
unfolding is_kind
broadcast-fit ip source = kernel_route-fit ip 32 0 broadcast_kind source refl (host_bits-none ip) refl

-- of a prefix up to 32, whatever the priority
pub subnet_fit : (source priority : ℕ) (a : Row) → leb (prefix a) 32 ≡ true
    → fit_route (kernel_route (network (Address.address a) (prefix a)) (prefix a) priority local_kind source) ≡ true
unfolding is_kind
subnet_fit source priority a h =
    kernel_route-fit (network (Address.address a) (prefix a)) (prefix a) priority local_kind source h (host_bits-network (Address.address a) (prefix a)) refl

only-fit : (b : Bool) (r : Row) → fit_route r ≡ true → all fit_route (only b r) ≡ true
only-fit b r h = cond-case (λ (l : List Row). all fit_route l ≡ true) b (λ e. all_cons fit_route r [] h refl) (λ e. refl)

three-fit : (b c d : Bool) (x y z : Row) → fit_route x ≡ true → fit_route y ≡ true → fit_route z ≡ true
    → all fit_route (only b x ++ (only c y ++ only d z)) ≡ true
three-fit b c d x y z f g h =
    all_append fit_route (only b x) (only c y ++ only d z) (only-fit b x f)
    (all_append fit_route (only c y) (only d z) (only-fit c y g) (only-fit d z h))

up_routes-fit : (source : ℕ) (a : Row) → leb (prefix a) 32 ≡ true → all fit_route (up_routes source a) ≡ true
unfolding up_routes prefix_route
up_routes-fit source a h =
    three-fit (names_broadcast a) (own_network a && not (Address.secondary a) && not (Address.no_prefix_route a)) (own_network a && not (Address.secondary a) && ltb (prefix a) 31) _ _ _
    (broadcast-fit (Address.broadcast a) source) (subnet_fit source (Address.priority a) a h) (broadcast-fit (broadcast (Address.address a) (prefix a)) source)

pub candidates-fit : (addresses : List Row) (up : Bool) (a : Row) → leb (prefix a) 32 ≡ true → all fit_route (candidates addresses up a) ≡ true
unfolding candidates
candidates-fit addresses up a h =
    all_cons fit_route (local_route (primary_of addresses a) a) (cond up (up_routes (primary_of addresses a) a) []) (local_route-fit (primary_of addresses a) a)
    (cond-case (λ (l : List Row). all fit_route l ≡ true) up (λ e. up_routes-fit (primary_of addresses a) a h) (λ e. refl))

-- ---- event rows
emitted-words : (a : Row) → length a ≡ 20 → length (a ++ zeros 12) ≡ 32
emitted-words a h = simp (length-append, length-zeros) (omega arith)

pub new_addr4-emitted : (a : Row) → fit_address a ≡ true → sized 34 (new_addr4 a ∷ []) ≡ true
unfolding new_addr4
new_addr4-emitted a h = rw (emitted-words a (length-address a h))

pub del_addr4-emitted : (a : Row) → fit_address a ≡ true → sized 34 (del_addr4 a ∷ []) ≡ true
unfolding del_addr4
del_addr4-emitted a h = rw (emitted-words a (length-address a h))

pub new_route4-emitted : (r : Row) (flags : ℕ) → fit_route r ≡ true → sized 34 (new_route4 r flags ∷ []) ≡ true
unfolding new_route4
new_route4-emitted r flags h = rw (length-route r h)

pub del_route4-emitted : (r : Row) → fit_route r ≡ true → sized 34 (del_route4 r ∷ []) ≡ true
unfolding del_route4
del_route4-emitted r h = rw (length-route r h)

pub bare-emitted : (kind : ℕ) → sized 34 (bare kind ∷ []) ≡ true
unfolding bare
bare-emitted kind = rw (length-zeros 33)

-- ---- the route that a request asks for
then-zero : (a b : ℕ) → then a b ≡ 0 → (a ≡ 0) × (b ≡ 0)
then-zero a b h =
    cond-case (λ (n : ℕ). n ≡ 0 → (a ≡ 0) × (b ≡ 0)) (eqb a 0)
    (λ e k. (eqb-true a 0 e, k)) (λ e k. absurd (eqb-false a 0 e k)) h

refuse-zero : (b : Bool) (n : ℕ) → 0 < n → refuse b n ≡ 0 → b ≡ false
refuse-zero true n h k = absurd (omega arith)
refuse-zero false n h k = refl

-- a request whose form is right names a prefix without host bits and one of the kinds
pub form_right : (q : Row) → form_check q ≡ 0 → (leb (len q) 32 ≡ true) × (host_bits (dst q) (len q) ≡ 0) × (is_kind (kind q) ≡ true)
unfolding form_check
form_right q h =
    let a = then-zero (refuse (bad_prefix q) 22) _ h in
    let b = then-zero (refuse (ltb (Route.scope q) (least_scope (kind q)) || dead_flags q) 22) _ a.1 in
    let c = then-zero (metrics_error q) (refuse (not (is_kind (kind q))) (cond (unsupported (kind q)) 95 22)) b.1 in
    let d = or-false (not (leb (len q) 32)) (not (eqb (host_bits (dst q) (len q)) 0)) (refuse-zero (bad_prefix q) 22 (omega arith) a.0) in
    let e = refuse-zero (not (is_kind (kind q))) (cond (unsupported (kind q)) 95 22) (cond-case (λ (n : ℕ). 0 < n) (unsupported (kind q)) (λ e. omega arith) (λ e. omega arith)) c.1 in
    (not-false (leb (len q) 32) d.0, eqb-true (host_bits (dst q) (len q)) 0 (not-false (eqb (host_bits (dst q) (len q)) 0) d.1), not-false (is_kind (kind q)) e)

mark-fit : (b : Bool) → leb (mark b) 1 ≡ true
mark-fit b = cond-case (λ (n : ℕ). leb n 1 ≡ true) b (λ e. refl) (λ e. refl)

pub asked_route-fit : (q : Row) (linked : Bool) → length q ≡ 34 → fit_add_route4 q ≡ true → form_check q ≡ 0 → fit_route (asked_route q linked) ≡ true
unfolding fit_route asked_route fit_add_route4
asked_route-fit q linked long fit form =
    let k = simp and_iff at fit in
    let f = form_right q form in
    let metrics : length (take 17 (drop 16 q)) ≡ 17 = simp (length-take, length-drop) (omega arith) in
    simp and_iff
    (((((((((((behind_fifteen (length (take 17 (drop 16 q))) metrics, f.0), eq-eqb (host_bits (dst q) (len q)) 0 f.1), k.0.0.0.0.0.0.0.0.1), f.2), k.0.0.0.0.0.0.1), k.0.0.0.0.0.1), k.0.0.0.0.1), k.0.0.0.1), mark-fit (eqb (error_of (kind q)) 0)), mark-fit (onlink_flag q)), mark-fit linked)
