-- What is made in an accepted run is within the limits.
use Rattle.std.proofs.Common.{ℕ, List, [], ◌∷◌}
use Rattle.hol_spec.specs.Proofs.{Made, Accepted}
use Rattle.hol_laws.specs.Members.{All-append}
use Rattle.article_spec.specs.State.{Stage}
use Rattle.article_spec.specs.Run.{accepted, Run}
use Rattle.article_laws.specs.GrownRuns.{of_names, Grows, moves_of}
use Rattle.article_laws.specs.KeptRuns.{any_item, every_run}
use Rattle.image_bound_laws.specs.SymbolLimits.{MadeWithin, AreWithin}
use Rattle.image_bound_laws.specs.WithinDefining.{arguments-few, define_const-within, define_const_list-within, define_type_op-within}

abbrev within : Stage → List Made → List ℕ → List ℕ → Type 0
within place made exports assumptions = AreWithin made

-- each step is within the limits, and so is what is taken and what is defined
grows : Grows (λ n. Unit {0}) within MadeWithin
grows = record {
  made = λ s ys g h. All-append MadeWithin s.made ys g h;
  assumed = λ s is g. g;
  exported = λ s j hs c x g e l. All-append MadeWithin s.made (Made.step x ∷ []) g (l, tt {0});
  step = λ x l. l;
  operator = λ n ts h l. arguments-few n ts l.depth;
  constant = λ n h. tt {0};
  define_const = λ m n t x h e l. define_const-within m n t x e l;
  define_const_list = λ s pairs j g h. define_const_list-within s.made pairs j g;
  define_type_op = λ edition names j c f h l. define_type_op-within edition names c f l;
}

-- What an accepted run made is within the limits
pub run-within : (articles : List (List ℕ)) (a : Accepted) → Run articles (accepted a) → AreWithin a.made
run-within articles a r =
    every_run (of_names (λ n. Unit {0}) within) (moves_of _ _ _ grows) (λ s p g. g) (λ s g. g) (λ m x. any_item x)
    (λ b. AreWithin b.made) (λ s h. h.run) (tt {0}) articles a r
