use Rattle.std.proofs.Common.{refl, sym, ap, ◌∙◌, ◌*◌, ℕ, List}
use Rattle.lists.specs.Lists.{put}
use Rattle.lists.specs.At.{flat-one}
use Rattle.step_events.proofs.change.Change.tell.Goals as goal

pub returns : goal.returns
returns c =
    record {
      tells =
          record {
            told = refl;
            words = c.store.ensures ∙ ap (λ (x : List ℕ). put (34 * c.args.self.now.told) x c.args.self.now.events.now) (sym (flat-one c.args.row.now));
            long = c.store.auto.s;
            places = record { state = refl; events = refl };
          };
      state = refl;
    }
