-- `expire` address by address: one that is due goes and all begins again, one that fades is marked. That these iterations are
-- `expire` itself is proved in proofs/Iterations.antt.
-- Assumes nothing.
use Rattle.std.specs.Prelude.{ℕ, ◌+◌, cond, [], ◌∷◌, ltb, get_or, set}
use Rattle.layout.specs.Event.{new_addr4}
use Rattle.definition.specs.State.{State, Out, becomes, stays, with_addresses}
use Rattle.definition.specs.Reference.Removal.{remove_v4, due, deprecates, deprecate}

module _ (allowance now : ℕ) where
  -- what comes of the address at i
  unfoldable pub expire_turn : ℕ → State → Out
  expire_turn i st =
      cond (due allowance now (get_or st.addresses i [])) (remove_v4 (get_or st.addresses i []) st)
      (cond (deprecates allowance now (get_or st.addresses i []))
      (becomes (with_addresses (set st.addresses i (deprecate (get_or st.addresses i []))) st) (new_addr4 (deprecate (get_or st.addresses i [])) ∷ []))
      (stays st))

-- the place that is next: the first one again where addresses went
abbrev pub next_place : ℕ → ℕ → ℕ → ℕ
next_place i before after = cond (ltb after before) 0 (i + 1)
