-- The checks of device and gateway, by the rows and whether 255 and 253 are listed.
-- Assumes nothing.
use Rattle.std.specs.Prelude.{ℕ, ◌≡◌, refl, Bool, true, false, cond, not, ◌&&◌, ◌||◌, List, [], ◌∷◌, Result, Ok, Err, eqb, leb, ltb}
use Rattle.std.proofs.Common.{sym, ap, ◌∙◌, eq-eqb, ne_eqb}
use Rattle.std.proofs.Math.Path.{fun_ext}
use Rattle.std.proofs.Math.Bool.{or_self}
use Rattle.std.proofs.Math.Option.{none}
use Rattle.lists.specs.Lists.{Row, keep}
use Rattle.kind.specs.Kind.{error_of}
use Rattle.layout.specs.Route.{kind, scope, gateway_present, gateway}
use Rattle.layout.specs.Request.{oif, up_at_add_route4}
use Rattle.definition.specs.State.{State}
use Rattle.definition.specs.Reference.Lookup.{Flow, Found, fits, longest, main_table, answer, together, lookup_in, addr_type4, listed, type_set, local_table, default_table, unicast_kind}
use Rattle.definition.specs.Reference.Addresses.{link_scope, host_scope}
use Rattle.definition.specs.Reference.Routes as Routes
use Rattle.definition.specs.Reference.Routes.{by, unreached, table_named, onlink_flag, then, refuse, onlink_check, to_gateway, usable, found_or, gateway_route, reached_by, gateway4, plain, reach_check}
use Rattle.rows_lookup.specs.AddrType.{type_rows}
use Rattle.rows_lookup.specs.Answer.{lookup_rows}
use Rattle.refusal.specs.declared.Refusal.{Refusal}
use Rattle.refusal.specs.declared.Refusal.TheVariants.{Errno}

-- a check's answer, as the code has it
abbrev pub reached : Routes.Reached → Result Bool Refusal
reached (by b) = Ok b
reached (unreached n) = Err (Errno n)

abbrev pub settled : ℕ → Bool → Routes.Reached
settled n b = cond (eqb n 0) (by b) (unreached n)

abbrev pub onlink_number : Row → ℕ → ℕ
onlink_number q k =
    then (refuse (leb link_scope (scope q)) 22)
    (then (refuse (not (eqb (oif q) 1)) 19)
    (then (refuse (eqb (up_at_add_route4 q) 0) 100)
    (refuse (not (eqb k unicast_kind)) 22)))

unfoldable pub onlink_rows : Row → Bool → List Row → Routes.Reached
onlink_rows q localListed l = settled (onlink_number q (type_rows localListed (type_set local_table) l (gateway q))) true

unfoldable pub gateway_rows : Row → Bool → List Row → Found
gateway_rows q defaultListed l =
    let own = answer (together (table_named q)) (to_gateway q) l in
    cond (usable own) (found_or own (lookup_rows defaultListed l (to_gateway q))) (lookup_rows defaultListed l (to_gateway q))

unfoldable pub gateway4_rows : Row → Bool → Bool → List Row → Routes.Reached
gateway4_rows q localListed defaultListed l =
    cond (onlink_flag q) (onlink_rows q localListed l) (reached_by q (gateway_rows q defaultListed l))

unfoldable pub reach_rows : Row → Bool → Bool → List Row → Routes.Reached
reach_rows q localListed defaultListed l =
    let gatewayed = eqb (gateway_present q) 1 in
    cond (not (eqb (error_of (kind q)) 0)) (plain (refuse (gatewayed || not (eqb (oif q) 0)) 22))
    (cond (ltb host_scope (scope q)) (unreached 22)
    (cond (eqb (scope q) host_scope) (plain (then (refuse gatewayed 22) (refuse (not (eqb (oif q) 1)) 19)))
    (cond gatewayed (gateway4_rows q localListed defaultListed l)
    (plain
    (then (refuse (onlink_flag q) 22)
    (then (refuse (not (eqb (oif q) 1)) 19) (refuse (eqb (up_at_add_route4 q) 0) 100)))))))

-- they are the reference's
pub reach-rows : (q : Row) (st : State) → reach_check q st ≡ reach_rows q (listed local_table st) (listed default_table st) st.routes
unfolding reach_check gateway4 onlink_check gateway_route addr_type4 lookup_in reach_rows gateway4_rows onlink_rows gateway_rows
reach-rows q st = refl

-- ---- the set that a named table is read in, as the code has it
upper_set : (t : ℕ) → (eqb t local_table || eqb t main_table) ≡ true → together t ≡ (λ u. eqb u 255 || eqb u 254)
unfolding together
upper_set t e = fun_ext (λ u. rw e)

lower_set : (t : ℕ) → (eqb t local_table || eqb t main_table) ≡ false → t ≡ 253 → together t ≡ (λ u. eqb u 253 || eqb u 253)
unfolding together
lower_set t e d = fun_ext (λ u. rw (e, eq-eqb t 253 d) (sym (or_self (eqb u 253))))

no-set : (t : ℕ) → (eqb t local_table || eqb t main_table) ≡ false → (t ≡ 253 → ⊥) → together t ≡ (λ (u : ℕ). false)
unfolding together
no-set t e d = fun_ext (λ u. rw (e, ne_eqb t 253 d))

none_kept : (f : Flow) (l : List Row) → keep (λ r. false && fits f r) l ≡ []
none_kept f [] = refl
none_kept f (r ∷ l) = none_kept f l

module _ (t : ℕ) (f : Flow) (l : List Row) where
  pub own_upper : (eqb t local_table || eqb t main_table) ≡ true → answer (together t) f l ≡ answer (λ u. eqb u 255 || eqb u 254) f l
  own_upper e = ap (λ (s : ℕ → Bool). answer s f l) (upper_set t e)

  pub own_lower : (eqb t local_table || eqb t main_table) ≡ false → t ≡ 253 → answer (together t) f l ≡ answer (λ u. eqb u 253 || eqb u 253) f l
  own_lower e d = ap (λ (s : ℕ → Bool). answer s f l) (lower_set t e d)

  pub own_none : (eqb t local_table || eqb t main_table) ≡ false → (t ≡ 253 → ⊥) → answer (together t) f l ≡ none
  unfolding answer longest
  own_none e d = ap (λ (s : ℕ → Bool). answer s f l) (no-set t e d) ∙ ap longest (none_kept f l)
