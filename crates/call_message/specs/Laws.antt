-- What a message comes to as an answer.
-- Assumes nothing.
use Rattle.std.specs.Prelude.{ℕ, suc, ◌*◌, ◌≤◌, ◌≡◌, ◌≢◌, refl, Bool, true, false, cond, ◌&&◌, Result, Ok, Err, List, [], ◌∷◌, eqb, leb, length}
use Rattle.std.specs.Result.{IsErr, IsErrAnd}
use Rattle.std.proofs.Common.{sym, ap, ◌∙◌, arith, length-append, eq-eqb, ne_eqb}
use Rattle.std.proofs.Math.Option.{Option, none, some}
use Rattle.lists.specs.Lists.{Row, all, each, flat, put, zeros}
use Rattle.lists.specs.Put.{put-no-rows}
use Rattle.lists.specs.At.{flat-one}
use Rattle.lists.specs.Rows.{length-pad}
use Rattle.lists.specs.Bools.{cond-case, cond-true}
use Rattle.layout.specs.Request.{del_route4_size}
use Rattle.netlink.specs.Codes.{rtm_new_addr, rtm_del_addr, rtm_new_route, rtm_del_route, inet}
use Rattle.netlink.specs.Attributes.{Attribute, attributes, right, last}
use Rattle.netlink.specs.Exactly.{known}
use Rattle.netlink.specs.Types.{number_of}
use Rattle.netlink.specs.declared.MessageType.{MessageType}
use Rattle.netlink.specs.declared.MessageType.TheVariants.{NewAddr, DelAddr, NewRoute, DelRoute}
use Rattle.netlink.specs.Reader.{Answer, message_length, message_type, family, attributes_at, body, sized_in, sizes, types, unknown_metric, metrics_in, metrics_asked, pair, pairs_asked, new_addr, del_addr, new_route, del_route, request, refusal, read}
use Rattle.definition.specs.Call.{Reply, numbers}
use Rattle.definition.specs.Call.{refusal as refusing}
use Rattle.refusal.specs.declared.Refusal.{Refusal}
use Rattle.refusal.specs.Refusal.{Refuses}
use Rattle.refusal.specs.Refusal as Refusals
use Rattle.netlink_refusal.specs.Order.{judged, lengths_of, body_of, number_for}
use Rattle.call_read.specs.Answer.{answer_by}
use Rattle.call_message.specs.declared.Asked.{Asked}
use Rattle.call_message.specs.Message.{requested, replied, read_call}
use Rattle.call_message.specs.Answer.{asked_by, Filled, Wrote}

-- ---- the words of each request
module _ (up : ℕ) (m : List ℕ) (l : List Attribute) where
  pub length_new_addr : length (new_addr up m l) ≡ 18
  unfolding new_addr
  length_new_addr = refl

  pub length_del_addr : length (del_addr m l) ≡ 11
  unfolding del_addr
  length_del_addr = refl

  length-asked : (k : List Attribute) → length (metrics_asked k) ≡ 18
  unfolding metrics_asked zeros
  length-asked k = cond-case (λ (w : List ℕ). length w ≡ 18) (unknown_metric k) (λ e. refl) (λ e. refl)

  pub length_new_route : length (new_route up m l) ≡ 34
  unfolding new_route
  length_new_route = omega (arith, length-append (metrics_asked (metrics_in l)) (up ∷ []), length-asked (metrics_in l))

  pair-short : (t : ℕ) (o : Option (List ℕ)) → length (pair t o) ≤ 2
  pair-short t none = omega arith
  pair-short t (some p) = omega arith

  pairs-short : (k : List Attribute) (ts : List ℕ) → length (each (λ t. pair t (last t k)) ts) ≤ 2 * length ts
  pairs-short k [] = omega arith
  pairs-short k (t ∷ ts) =
      omega (arith, pair-short t (last t k), pairs-short k ts, length-append (pair t (last t k)) (each (λ t. pair t (last t k)) ts))

  length-pairs : (k : List Attribute) → length (pairs_asked k) ≡ 36
  unfolding pairs_asked zeros
  length-pairs k =
      cond-case (λ (w : List ℕ). length w ≡ 36) (unknown_metric k)
      (λ e. refl)
      (λ e. ap (λ (n : ℕ). suc (suc n)) (length-pad 34 (each (λ t. pair t (last t k)) types) (pairs-short k types)))

  pub length_del_route : length (del_route m l) ≡ 49
  unfolding del_route
  length_del_route = omega (arith, length-pairs (metrics_in l))

-- ---- the request of a message
abbrev pub request_in : ℕ → List ℕ → Row
request_in up m = request up m (message_type m) (attributes (body m))

-- of a message's type and end
pub request_is : (up : ℕ) (m : List ℕ) (t end : ℕ) → t ≡ message_type m → end ≡ message_length m → request up m t (attributes (body_of t m end)) ≡ request_in up m
request_is up m t end e f = λ i. request up m (e i) (attributes (body_of (e i) m (f i)))

pub same_rows : (f : List ℕ → List Attribute → Row) {m m' b b' : List ℕ} → m ≡ m' → b ≡ b' → f m (attributes b) ≡ f m' (attributes b')
same_rows f e g = λ i. f (e i) (attributes (g i))

-- ---- the number that refuses it
and_true : (b : Bool) → b && true ≡ b
and_true true = refl
and_true false = refl

pub both-pass : (f : ℕ) (a b : Bool) → judged f a b ≡ 0 → (a ≡ true) × (b ≡ true)
both-pass f true true h = (refl, refl)
both-pass f true false h = cond-case (λ (n : ℕ). n ≡ 0 → (◌≡◌ {A = Bool} true true) × (◌≡◌ {A = Bool} false true)) (eqb f inet) (λ e z. absurd (omega arith)) (λ e z. absurd (omega arith)) h
both-pass f false b h = absurd (omega arith)

pub of-address : (f : ℕ) (b : List ℕ) (s : Bool) → judged f (right b && true) s ≡ judged f (right b) s
of-address f b s = ap (λ (a : Bool). judged f a s) (and_true (right b))

pub of-route : (f : ℕ) (a : Bool) (l : List Attribute) → judged f a (sizes rtm_new_route l) ≡ judged f a (all (sized_in rtm_new_route) l)
unfolding sizes
of-route f a l = ap (judged f a) (and_true (all (sized_in rtm_new_route) l))

pub of-deleted : (f : ℕ) (a : Bool) (l : List Attribute) → judged f a (sizes rtm_del_route l) ≡ judged f a (all (sized_in rtm_new_route) l)
unfolding sizes
of-deleted f a l = ap (judged f a) (and_true (all (sized_in rtm_new_route) l))

head-is : (b : Bool) → ◌≡◌ {A = ℕ} (cond b 0 204) 0 → b ≡ true
head-is true h = refl
head-is false h = absurd (omega arith)

-- of a message whose ifaddrmsg or rtmsg is there
pub number-of : (t : ℕ) (m m' b : List ℕ) (end n : ℕ) → m' ≡ m → b ≡ body_of t m end → ◌≡◌ {A = ℕ} (cond (leb (attributes_at t) end) 0 204) 0
    → judged (family m') (lengths_of t b) (sizes t (attributes b)) ≡ n → number_for t m end ≡ n
number-of t m m' b end n e f h g =
    cond-true (leb (attributes_at t) end) (judged (family m) (lengths_of t (body_of t m end)) (sizes t (attributes (body_of t m end)))) 204
    (head-is (leb (attributes_at t) end) h)
    ∙ (λ i. judged (family (sym e i)) (lengths_of t (sym f i)) (sizes t (attributes (sym f i))))
    ∙ g

pub no_head : (b : Bool) (n : ℕ) → n ≡ cond b 0 204 → ◌≢◌ {A = ℕ} (cond b 0 204) 0 → (b ≡ false) × (n ≡ 204)
no_head true n e h = absurd (h refl)
no_head false n e h = (refl, e)

pub is_head : (b : Bool) → ◌≡◌ {A = ℕ} (cond b 0 204) 0 → b ≡ true
is_head b h = head-is b h

pub known-type : (t : MessageType) → known (number_of t) ≡ true
known-type NewAddr = refl
known-type DelAddr = refl
known-type NewRoute = refl
known-type DelRoute = refl

-- a refusal that is handed on has written nothing
pub filled-refused : (r : Result (Unit {0}) Refusal) (e : Refusal) (n : ℕ) (row w : List ℕ) → IsErr r × IsErrAnd r (λ x. x ≡ e) → Refusals.number_of e ≡ n → n ≢ 0
    → Filled n row w r w
filled-refused (Ok u) e n row w h f z = absurd h.1
filled-refused (Err x) e n row w h f z = (ap Refusals.number_of h.1 ∙ f, (z, refl))

pub wrote-refused : (t : ℕ) (r : Result Asked Refusal) (e : Refusal) (n k : ℕ) (row w w' : List ℕ) → IsErr r × IsErrAnd r (λ x. x ≡ e) → n ≡ k
    → (Refusals.number_of e ≡ k) × ((k ≢ 0) × (w' ≡ w)) → Wrote t n row w r w'
wrote-refused t (Ok a) e n k row w w' h f g = absurd h.1
wrote-refused t (Err x) e n k row w w' h f g = (ap Refusals.number_of h.1 ∙ g.0 ∙ sym f, ((λ z. g.1.0 (sym f ∙ z)), g.1.1))

-- ---- the answers
module _ (room up : ℕ) (m w : List ℕ) where
  pub refused-by : (r : Result Asked Refusal) (e : Refusal) (n : ℕ) → IsErr r × IsErrAnd r (λ x. x ≡ e) → Refusals.number_of e ≡ n → n ≢ 0
      → read_call room up m ≡ refusing n
      → Refuses r (read_call room up m).number × ((answer_by asked_by r ≡ numbers (read_call room up m)) × (w ≡ put 0 (flat (read_call room up m).rows) w))
  refused-by (Ok a) e n h f z q = absurd h.1
  refused-by (Err x) e n h f z q =
      let is : Refusals.number_of x ≡ n = ap Refusals.number_of h.1 ∙ f in
      rw q ((is, z), ((λ i. record { number = is i; present = 0; value = 0; second = 0 }), put-no-rows w))

  pub no_room : leb 49 room ≡ false → read_call room up m ≡ refusing 200
  unfolding read_call
  no_room h = rw h

  module _ (h : leb 49 room ≡ true) where
    pub not-read : refusal m ≢ 0 → read_call room up m ≡ refusing (refusal m)
    unfolding read_call read
    not-read z = let some_number : eqb (refusal m) 0 ≡ false = ne_eqb (refusal m) 0 z in rw (h, some_number)

    pub is_read : refusal m ≡ 0 → read_call room up m ≡ requested (message_type m) (request_in up m)
    unfolding read_call read
    is_read z = rw (h, eq-eqb (refusal m) 0 z)

-- what was written is what the call says
pub written : (room up : ℕ) (m w w' : List ℕ) (t n : ℕ) (row : Row) (r : Result Asked Refusal) → leb 49 room ≡ true → refusal m ≡ n → t ≡ message_type m
    → row ≡ request_in up m → Wrote t n row w r w'
    → Refuses r (read_call room up m).number × ((answer_by asked_by r ≡ numbers (read_call room up m)) × (w' ≡ put 0 (flat (read_call room up m).rows) w))
written room up m w w' t n row (Ok a) enough e f g h =
    rw (is_read room up m w enough (e ∙ h.0)) (
      refl,
      (
        (λ i. record { number = 0; present = 0; value = (h.1.0 ∙ f) i; second = (h.1.1.0 ∙ ap length g) i }),
        h.1.1.1 ∙ ap (λ (q : List ℕ). put 0 q w) (g ∙ sym (flat-one (request_in up m))),
      ),
    )
written room up m w w' t n row (Err x) enough e f g h =
    let is : Refusals.number_of x ≡ refusal m = h.0 ∙ sym e in
    let z : refusal m ≢ 0 = (λ y. h.1.0 (sym e ∙ y)) in
    rw (not-read room up m w enough z)
    ((is, z), ((λ i. record { number = is i; present = 0; value = 0; second = 0 }), h.1.1 ∙ put-no-rows w))

-- ---- the words written are as many as the reply says, and at most 49
request-short : (up : ℕ) (m : List ℕ) (t : ℕ) (l : List Attribute) → length (request up m t l) ≤ 49
unfolding request
request-short up m t l =
    let few : Row → Type 0 = λ w. length w ≤ 49 in
    cond-case few (eqb t rtm_new_addr) (λ e. omega (arith, length_new_addr up m l))
    (λ e. cond-case few (eqb t rtm_del_addr) (λ e. omega (arith, length_del_addr up m l))
    (λ e. cond-case few (eqb t rtm_new_route) (λ e. omega (arith, length_new_route up m l)) (λ e. omega (arith, length_del_route up m l))))

pub record Counted (r : Reply) : Type 0 where
  pub words : length (flat r.rows) ≡ r.second
  pub few : r.second ≤ 49

counted-refusal : (n : ℕ) → Counted (refusing n)
unfolding flat
counted-refusal n = record { words = refl; few = omega arith }

pub counted : (room up : ℕ) (m : List ℕ) → Counted (read_call room up m)
unfolding read_call read
counted room up m =
    cond-case Counted (leb del_route4_size room)
    (λ e. cond-case (λ (a : Answer). Counted (replied a)) (eqb (refusal m) 0)
    (λ e. record { words = ap length (flat-one (request_in up m)); few = request-short up m (message_type m) (attributes (body m)) })
    (λ e. counted-refusal (refusal m)))
    (λ e. counted-refusal 200)
