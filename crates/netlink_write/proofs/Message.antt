-- Headers and body are an event's message.
-- Assumes nothing.
use Rattle.std.specs.Prelude.{ℕ, ◌+◌, ◌≤◌, ◌<◌, ◌≡◌, refl, true, List, ◌∷◌, ◌++◌, eqb, length}
use Rattle.std.proofs.Common.{sym, ap, ◌∙◌, arith, length-append, eqb-true}
use Rattle.lists.specs.Lists.{Row, put}
use Rattle.lists.specs.Bools.{or_case, fails, cond-true, cond-false}
use Rattle.netlink_event.specs.Written.{Entry, bytes2, bytes4, written_all, message}
use Rattle.netlink_event.specs.Writer.{kind, flags, type_of, of_address, of_route, address_row, route_row, event_message, writes}
use Rattle.netlink_event.proofs.Fit.{one-of-two, row-of, address-message, route-message}
use Rattle.netlink_put.specs.declared.Writer.{Writer}
use Rattle.netlink_put.specs.Wrote.{Appends, ◌and_then◌, Sets, unset_header}
use Rattle.netlink_write.specs.Parts.{address_body, route_body, body}
use Rattle.netlink_write.proofs.Address.{address-bound}
use Rattle.netlink_write.proofs.Route.{route-bound}

-- ---- netlink's header before a body
abbrev pub framed : (type flags sequence port : ℕ) → List ℕ → List ℕ
framed type flags sequence port b =
    bytes4 (16 + length b) ++ (bytes2 type ++ (bytes2 flags ++ (bytes4 sequence ++ (bytes4 port ++ b))))

message-framed : (type flags sequence port : ℕ) (head : List ℕ) (t : List Entry)
    → message type flags sequence port head t ≡ framed type flags sequence port (head ++ written_all t)
unfolding message
message-framed type flags sequence port head t =
    let size : 16 + length head + length (written_all t) ≡ 16 + length (head ++ written_all t) = omega (arith, length-append head (written_all t)) in
    ap (λ (n : ℕ). bytes4 n ++ (bytes2 type ++ (bytes2 flags ++ (bytes4 sequence ++ (bytes4 port ++ (head ++ written_all t)))))) size

-- the length is set once all is written
set-front : (n : ℕ) (rest l : List ℕ) → put 0 (bytes4 n) (put 0 (0 ∷ 0 ∷ 0 ∷ 0 ∷ rest) l) ≡ put 0 (bytes4 n ++ rest) l
unfolding put
set-front n rest l = refl

module _ {t u v w : Writer} (type flags sequence port : ℕ) (b : List ℕ) (none : t.len ≡ 0) (header : Appends t (unset_header type flags sequence port) u)
    (behind : Appends u b v) (set : Sets v (bytes4 v.len) w) where
  both : Appends t (unset_header type flags sequence port ++ b) v
  both = header and_then behind

  size : v.len ≡ 16 + length b
  size = omega (arith, both.wrote.next, none)

  pub framed-long : w.len ≡ length (framed type flags sequence port b)
  framed-long = set.as_far ∙ omega (arith, size)

  pub framed-put : w.out.now ≡ put 0 (framed type flags sequence port b) t.out.now
  framed-put =
      let rest : List ℕ = bytes2 type ++ (bytes2 flags ++ (bytes4 sequence ++ (bytes4 port ++ b))) in
      set.front
      ∙ ap (put 0 (bytes4 v.len)) (both.wrote.bytes ∙ ap (λ (n : ℕ). put n (0 ∷ 0 ∷ 0 ∷ 0 ∷ rest) t.out.now) none)
      ∙ set-front v.len rest t.out.now
      ∙ ap (λ (n : ℕ). put 0 (bytes4 n ++ rest) t.out.now) size

-- ---- an event that isn't refused
module _ (now : ℕ) (e : Row) where
  pub of-address : of_address e ≡ true → address_body now (address_row e) ≡ body now e
  unfolding body
  of-address a = sym (cond-true (of_address e) (address_body now (address_row e)) (route_body (route_row e)) a)

  pub of-route : of_route e ≡ true → route_body (route_row e) ≡ body now e
  unfolding body
  of-route r =
      sym (cond-false (of_address e) (address_body now (address_row e)) (route_body (route_row e)) (fails (of_address e) (λ a. one-of-two e a r)))

  module _ (w : writes e ≡ true) where
    pub low-kind : kind e ≤ 2 → of_address e ≡ true
    low-kind k =
        row-of e w (λ a f. a)
        (λ r f. or_case (eqb (kind e) 3) (eqb (kind e) 4) r (λ q. absurd (omega (arith, eqb-true (kind e) 3 q))) (λ q. absurd (omega (arith, eqb-true (kind e) 4 q))))

    pub high-kind : 2 < kind e → of_route e ≡ true
    high-kind k =
        row-of e w
        (λ a f. or_case (eqb (kind e) 1) (eqb (kind e) 2) a (λ q. absurd (omega (arith, eqb-true (kind e) 1 q))) (λ q. absurd (omega (arith, eqb-true (kind e) 2 q))))
        (λ r f. r)

    pub four-kinds : (1 ≤ kind e) × (kind e ≤ 4)
    four-kinds =
        row-of e w
        (λ a f. or_case (eqb (kind e) 1) (eqb (kind e) 2) a
        (λ q. let k = eqb-true (kind e) 1 q in (omega (arith, k), omega (arith, k)))
        (λ q. let k = eqb-true (kind e) 2 q in (omega (arith, k), omega (arith, k))))
        (λ r f. or_case (eqb (kind e) 3) (eqb (kind e) 4) r
        (λ q. let k = eqb-true (kind e) 3 q in (omega (arith, k), omega (arith, k)))
        (λ q. let k = eqb-true (kind e) 4 q in (omega (arith, k), omega (arith, k))))

    pub body-bound : length (body now e) ≤ 200
    body-bound =
        row-of e w
        (λ a f. omega (arith, ap length (of-address a), address-bound now (address_row e) f))
        (λ r f. omega (arith, ap length (of-route r), route-bound (route_row e)))

    pub event-framed : (sequence port : ℕ)
        → framed (type_of e) (flags e) sequence port (body now e) ≡ event_message sequence port now e
    event-framed sequence port =
        row-of e w
        (λ a f. ap (framed (type_of e) (flags e) sequence port) (sym (of-address a)) ∙ sym (message-framed _ _ _ _ _ _) ∙ sym (address-message sequence port now e a))
        (λ r f. ap (framed (type_of e) (flags e) sequence port) (sym (of-route r)) ∙ sym (message-framed _ _ _ _ _ _) ∙ sym (route-message sequence port now e r))
