-- A kind and its code say the same.
-- Assumes nothing.
use Rattle.std.specs.Prelude.{◌≡◌, refl, Bool, true, false, cond, ◌||◌, ℕ, eqb, Result, Ok, Err}
use Rattle.std.specs.Result.{is_ok, result_unwrap_or}
use Rattle.std.proofs.Common.{sym, ap, ◌∙◌, eqb-true}
use Rattle.std.proofs.Math.Bool.{or-false}
use Rattle.kind.specs.declared.Kind.{Kind}
use Rattle.kind.specs.declared.Kind.TheVariants.{Unicast, Local, Broadcast, Blackhole, Unreachable, Prohibit, Throw}
use Rattle.kind.specs.declared.UnknownKind.{UnknownKind}
use Rattle.kind.specs.Kind.{code_of, kind_of, is_kind}

pub kind-code : (k : Kind) → kind_of (code_of k) ≡ Ok k
unfolding kind_of
kind-code Unicast = refl
kind-code Local = refl
kind-code Broadcast = refl
kind-code Blackhole = refl
kind-code Unreachable = refl
kind-code Prohibit = refl
kind-code Throw = refl

step : (n : ℕ) (K k : Kind) (rest : Result Kind UnknownKind) (b : Bool) → eqb n (code_of K) ≡ b
    → (rest ≡ Ok k → code_of k ≡ n) → cond b (Ok K) rest ≡ Ok k → code_of k ≡ n
step n K k rest true e f q = let same : K ≡ k = cc in ap code_of (sym same) ∙ sym (eqb-true n (code_of K) e)
step n K k rest false e f q = f q

none : (n : ℕ) (e : UnknownKind) (k : Kind) → Err e ≡ Ok k → code_of k ≡ n
none n e k q = cc

pub code-kind : (n : ℕ) (k : Kind) → kind_of n ≡ Ok k → code_of k ≡ n
unfolding kind_of
code-kind n k =
    step n Unicast k _ (eqb n 1) refl (step n Local k _ (eqb n 2) refl (step n Broadcast k _ (eqb n 3) refl
    (step n Blackhole k _ (eqb n 6) refl (step n Unreachable k _ (eqb n 7) refl (step n Prohibit k _ (eqb n 8) refl
    (step n Throw k _ (eqb n 9) refl (none n _ k)))))))

-- ---- a code is a kind's where a kind is found for it
-- one test more before the rest
found : (a b : Bool) (k : Kind) (rest : Result Kind UnknownKind) → a || is_ok (cond b (Ok k) rest) ≡ (a || b) || is_ok rest
found true b k rest = refl
found false true k rest = refl
found false false k rest = refl

first : (b : Bool) (k : Kind) (rest : Result Kind UnknownKind) → is_ok (cond b (Ok k) rest) ≡ b || is_ok rest
first true k rest = refl
first false k rest = refl

pub is-kind-found : (n : ℕ) → is_ok (kind_of n) ≡ is_kind n
unfolding kind_of is_kind
is-kind-found n = rw (first, found, found, found, found, found, found, or-false)

-- a code that is a kind's is had again from the kind that is read
code-read : (n : ℕ) (d : Kind) (f : Result Kind UnknownKind) → kind_of n ≡ f → is_ok f ≡ true → code_of (result_unwrap_or f d) ≡ n
code-read n d (Ok k) e h = code-kind n k e
code-read n d (Err u) e h = cc

pub code-again : (n : ℕ) (d : Kind) → is_kind n ≡ true → code_of (result_unwrap_or (kind_of n) d) ≡ n
code-again n d h = code-read n d (kind_of n) refl (is-kind-found n ∙ h)
