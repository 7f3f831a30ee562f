use Rattle.std.proofs.Common.{arith, sym, ap, ◌∙◌, ◌≡◌, ◌%◌, length-drop, refl}
use Rattle.netlink.specs.Attributes.{padded, u16}
use Rattle.netlink_attributes.specs.Steps.{rest}
use Rattle.netlink_attributes.specs.StepLaws.{nothing, is-short, begins, fewer, length-is, code-is, left-is}
use Rattle.netlink_attributes.proofs.AttributesIterator.next.Goals as goal

pub returns-then-is_short-clause-steps : goal.returns-then-is_short-clause-steps
returns-then-is_short-clause-steps c =
    (is-short (rest c.args.self.now) (sym c.is_short.ensures ∙ c.if-is_short.true), refl)

pub returns-in-Some-clause-steps : goal.returns-in-Some-clause-steps
returns-in-Some-clause-steps c =
    let l = c.args.self.now.bytes.now in
    let at = c.args.self.now.at in
    let said = c.in-Some.ensures in
    let n = sym said.0 ∙ ap (λ x. u16 x 0) (left-is l at) in
    let code = said.1 ∙ ap (λ x. u16 x 2 % 16384) (left-is l at) in
    begins l at _ 8 c.in-Some.code 8 n (omega arith) (omega (arith, c.if-self.true)) code refl (omega arith)

pub returns-in-Some-clause-goes : goal.returns-in-Some-clause-goes
returns-in-Some-clause-goes c =
    record {
      on = λ _. (tt, tt, fewer (rest c.args.self.now) _ _ (returns-in-Some-clause-steps c));
      keeps = tt;
      rests = λ _. tt;
    }

pub returns-then-length-lt-HEADER-clause-steps : goal.returns-then-length-lt-HEADER-clause-steps
returns-then-length-lt-HEADER-clause-steps c =
    let n = length-is c.args.self.now.bytes.now c.args.self.now.at c.from-length.result (c.from-length.ensures ∙ c.from_le_bytes.ensures) in
    (nothing (rest c.args.self.now) (λ p q. omega arith), refl)

pub returns-then-left-length-clause-steps : goal.returns-then-left-length-clause-steps
returns-then-left-length-clause-steps c =
    let n = length-is c.args.self.now.bytes.now c.args.self.now.at c.from-length.result (c.from-length.ensures ∙ c.from_le_bytes.ensures) in
    (nothing (rest c.args.self.now) (λ p q. omega (arith, length-drop c.args.self.now.at c.args.self.now.bytes.now)), refl)

pub returns-clause-steps : goal.returns-clause-steps
returns-clause-steps c =
    let l = c.args.self.now.bytes.now in
    let at = c.args.self.now.at in
    let n = length-is l at c.from-length.result (c.from-length.ensures ∙ c.from_le_bytes.ensures) in
    let code = ap (λ n. n % 16384) (code-is l at c.from_le_bytes-2.result c.from_le_bytes-2.ensures) in
    let next : c.next_multiple_of.result ≡ padded c.from-length.result =
    omega (arith, c.next_multiple_of.ensures.lower_bound, c.next_multiple_of.ensures.upper_bound, c.next_multiple_of.ensures.multiple)
    in
    begins l at _ c.from-length.result c.from.result c.next_multiple_of.result n (omega arith) (omega arith) (c.from.ensures ∙ code) refl next

pub returns-clause-goes : goal.returns-clause-goes
returns-clause-goes c =
    record {
      on = λ _. (tt, tt, fewer (rest c.args.self.now) _ _ (returns-clause-steps c));
      keeps = tt;
      rests = λ _. tt;
    }
