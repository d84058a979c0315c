-- A word of the body of an article leaves the place where the machine is in it.
use Rattle.std.proofs.Common.{◌≡◌, Result, Ok, refl}
use Rattle.common.specs.declared.faults.Kind.{Kind}
use Rattle.hol_laws.specs.Members.{All-each}
use Rattle.article_spec.specs.State.{Stage, State}
use Rattle.article_spec.specs.Step.{obey}
use Rattle.article_spec.specs.declared.commands.Word.{Word}
use Rattle.article_laws.specs.GrownRuns.{of_names, Grows, moves_of, any-objects}
use Rattle.article_laws.specs.KeptWords as kept
use Rattle.article_laws.specs.Moves.{Invariant}

-- what a word answers has the place of the state before it
abbrev Keeps : State → Result State Kind → Type 0
Keeps s r = (t : State) → r ≡ Ok t → t.place ≡ s.place

module _ (p : Stage) where
  abbrev at_place : Invariant
  at_place = of_names (λ n. Unit {0}) (λ q made exports assumptions. q ≡ p)

  grows : Grows (λ n. Unit {0}) (λ q made exports assumptions. q ≡ p) (λ x. Unit {0})
  grows = record {
    made = λ s ys g h. g;
    assumed = λ s is g. g;
    exported = λ s j hs c x g e l. g;
    step = λ x l. tt {0};
    operator = λ n ts h l. tt {0};
    constant = λ n h. tt {0};
    define_const = λ m n t x h e l. tt {0};
    define_const_list = λ s pairs j g h. All-each _ _ (λ x k. tt {0});
    define_type_op = λ edition names j c f h l. tt {0};
  }

-- A word keeps the place.
pub obey-keeps : (s : State) (w : Word) → Keeps s (obey s w)
obey-keeps s w t e =
    (kept.obey-keeps (at_place s.place) (moves_of _ _ _ (grows s.place)) s t w (record { objects = any-objects s.stack s.dictionary; run = refl }) e).run
