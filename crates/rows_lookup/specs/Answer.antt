-- What the code answers, as the definitions have it.
use Rattle.std.specs.Prelude.{ℕ, ◌≡◌, refl, Bool, true, false, cond, ◌&&◌, ◌||◌, List, eqb, Option, Some, None, Result, Ok, Err}
use Rattle.std.proofs.Common.{sym, ap, ◌∙◌}
use Rattle.std.proofs.Math.Path.{fun_ext}
use Rattle.std.proofs.Math.Bool.{or_self}
use Rattle.std.proofs.Math.Option as Math
use denote.Ref.{Bor}
use Rattle.lists.specs.Lists.{Row}
use Rattle.definition.specs.State.{State}
use Rattle.definition.specs.Reference.Lookup.{Flow, Found, route, no_route, answer, together, settled, ruling, lookup_in, listed, main_table, default_table, net_unreachable}
use Rattle.refusal.specs.declared.Refusal.{Refusal}
use Rattle.refusal.specs.declared.Refusal.TheVariants.{Errno}
use Rattle.lists.specs.Library.{lent_ok}

-- a lookup's answer, as the code has it
abbrev pub answered : Found → Result Row Refusal
answered (route r) = Ok r
answered (no_route n) = Err (Errno n)

-- what a set's answer comes to, nothing where the search goes on
abbrev pub rules : Math.Option Row → Option (Result (Bor Row) Refusal) → Type 0
rules o (Some a) = (settled o ≡ true) × (lent_ok a ≡ answered (ruling o))
rules o None = settled o ≡ false

-- the two sets, one after the other: what they come to, by whether 253 is listed
abbrev pub lookup_rows : Bool → List Row → Flow → Found
lookup_rows b l f =
    cond (settled (answer (together main_table) f l)) (ruling (answer (together main_table) f l))
    (cond (b && settled (answer (together default_table) f l)) (ruling (answer (together default_table) f l)) (no_route net_unreachable))

pub lookup-rows : (st : State) (f : Flow) → lookup_in st f ≡ lookup_rows (listed default_table st) st.routes f
unfolding lookup_in
lookup-rows st f = refl

-- the sets as the code has them
pub upper_set : (f : Flow) (l : List Row) → answer (λ u. eqb u 255 || eqb u 254) f l ≡ answer (together main_table) f l
unfolding together
upper_set f l = refl

pub lower_set : (f : Flow) (l : List Row) → answer (λ u. eqb u 253 || eqb u 253) f l ≡ answer (together default_table) f l
unfolding together
lower_set f l = ap (λ (p : ℕ → Bool). answer p f l) (fun_ext (λ u. or_self (eqb u 253)))

module _ (l : List Row) (f : Flow) (b : Bool) (u : Math.Option Row) (upper : u ≡ answer (λ v. eqb v 255 || eqb v 254) f l) where
  pub upper_settles : (a : Result (Bor Row) Refusal) → rules u (Some a) → lent_ok a ≡ answered (lookup_rows b l f)
  upper_settles a r =
      let e : answer (together main_table) f l ≡ u = sym (upper_set f l) ∙ sym upper in
      rw (e, r.0) r.1

  module _ (past : settled u ≡ false) where
    pub upper-last : b ≡ false → answered (no_route net_unreachable) ≡ answered (lookup_rows b l f)
    upper-last q =
        let e : answer (together main_table) f l ≡ u = sym (upper_set f l) ∙ sym upper in
        rw (e, past, q)

    module _ (on : b ≡ true) (w : Math.Option Row) (lower : w ≡ answer (λ t. eqb t 253 || eqb t 253) f l) where
      pub lower_settles : (a : Result (Bor Row) Refusal) → rules w (Some a) → lent_ok a ≡ answered (lookup_rows b l f)
      lower_settles a r =
          let e : answer (together main_table) f l ≡ u = sym (upper_set f l) ∙ sym upper in
          let k : answer (together default_table) f l ≡ w = sym (lower_set f l) ∙ sym lower in
          rw (e, k, past, on, r.0) r.1

      pub lower-last : settled w ≡ false → answered (no_route net_unreachable) ≡ answered (lookup_rows b l f)
      lower-last q =
          let e : answer (together main_table) f l ≡ u = sym (upper_set f l) ∙ sym upper in
          let k : answer (together default_table) f l ≡ w = sym (lower_set f l) ∙ sym lower in
          rw (e, k, past, on, q)
