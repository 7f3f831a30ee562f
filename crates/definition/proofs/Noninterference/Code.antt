-- Two runs of the code side by side: the proof. What is seen of a run is what `step` gives, call by call, so the theorem of two runs
-- speaks of it.
-- Assumes nothing.
use Rattle.std.specs.Prelude.{ℕ, ◌≡◌, Bool, true, not, ◌&&◌, eqb}
use Rattle.std.proofs.Math.Path.{refl, ap, ap₂}
use Rattle.std.proofs.Common.{sym, ◌∙◌}
use Rattle.std.proofs.Math.Bool.{cond}
use mathlib.Core.List.{List, [], ◌∷◌}
use Rattle.definition.specs.Words.{state_of}
use Rattle.definition.specs.Call.{Call, Reply}
use Rattle.definition.specs.Step.{step}
use Rattle.definition.specs.Noninterference.Statement.{Choice, struck, Agree, empty_words, after, spacious, compared, observed, View, view}
use Rattle.definition.proofs.Noninterference.Theorem.{two_runs}
use Rattle.definition.specs.Noninterference.Public.{Seen, Ran, read_back, answers, spared, Equal, CodeRuns}
use Rattle.definition.proofs.Noninterference.ReadBack.{read_back_lem}

-- ---- what is seen, read back, is what `step` gives
pub record Shows (c : Call) (w : List ℕ) (s : Seen) (w' : List ℕ) : Type 0 where
  pub reply : read_back c s ≡ (step c w).reply
  pub words : w' ≡ (step c w).words

pub data Showed : List Call → List ℕ → List Seen → List ℕ → Type 0 where
  none : (w : List ℕ) → Showed [] w [] w
  next : (c : Call) (cs : List Call) (w : List ℕ) (s : Seen) (w' : List ℕ) (ss : List Seen) (w'' : List ℕ) → Shows c w s w' → Showed cs w' ss w'' → Showed (c ∷ cs) w (s ∷ ss) w''

pub ran_showed : (cs : List Call) (w : List ℕ) (ss : List Seen) (w' : List ℕ) → Ran cs w ss w' → Showed cs w ss w'
ran_showed cs w ss w' (Ran.none v) = Showed.none v
ran_showed cs w ss w' (Ran.next c ds v b s v' ts v'' m t) =
    Showed.next c ds v s v' ts v'' (record { reply = read_back_lem c v b s.numbers v' s.buffer m; words = m.words }) (ran_showed ds v' ts v'' t)

-- ---- so a whole run is one of the definition
pub showed_after : (cs : List Call) (w : List ℕ) (ss : List Seen) (w' : List ℕ) → Showed cs w ss w' → w' ≡ after cs w
unfolding after
showed_after cs w ss w' (Showed.none v) = refl
showed_after cs w ss w' (Showed.next c ds v s v' ts v'' m t) = showed_after ds v' ts v'' t ∙ ap (after ds) m.words

pub showed_spacious : (cs : List Call) (w : List ℕ) (ss : List Seen) (w' : List ℕ) → Showed cs w ss w' → spacious cs w ≡ spared ss
unfolding spacious
showed_spacious cs w ss w' (Showed.none v) = refl
showed_spacious cs w ss w' (Showed.next c ds v s v' ts v'' m t) =
    ap₂ (λ (r : Reply) (b : Bool). not (eqb r.number 203) && b) (sym m.reply)
    (ap (spacious ds) (sym m.words) ∙ showed_spacious ds v' ts v'' t)

module _ (chosen : ℕ → Bool) where
  pub showed_answers : (cs : List Call) (w : List ℕ) (ss : List Seen) (w' : List ℕ) → Showed cs w ss w' → answers chosen cs ss ≡ observed chosen cs w
  unfolding answers observed
  showed_answers cs w ss w' (Showed.none v) = refl
  showed_answers cs w ss w' (Showed.next c ds v s v' ts v'' m t) =
      ap₂ (λ (r : Reply) (l : List Reply). cond (struck chosen c) l (compared chosen c r ∷ l)) m.reply
      (showed_answers ds v' ts v'' t ∙ ap (observed chosen ds) m.words)

  pub showed_equal : Choice chosen → (cs ds : List Call) (ss ts : List Seen) (w v : List ℕ) → Agree chosen cs ds → Showed cs empty_words ss w → Showed ds empty_words ts v
      → spared ss ≡ true → spared ts ≡ true → Equal chosen cs ds ss ts w v
  showed_equal choice cs ds ss ts w v agree m t h k =
      let both = two_runs chosen choice cs ds agree (showed_spacious cs empty_words ss w m ∙ h) (showed_spacious ds empty_words ts v t ∙ k) in
      let at : List ℕ → View = λ x. view chosen (state_of x) in
      record {
        same_answers = showed_answers cs empty_words ss w m ∙ both.answers ∙ sym (showed_answers ds empty_words ts v t);
        afterwards = ap at (showed_after cs empty_words ss w m) ∙ both.afterwards ∙ sym (ap at (showed_after ds empty_words ts v t));
      }

-- ---- the claim
pub code_runs : CodeRuns
code_runs chosen choice cs ds ss ts w v agree m t h k =
    showed_equal chosen choice cs ds ss ts w v agree (ran_showed cs empty_words ss w m) (ran_showed ds empty_words ts v t) h k
