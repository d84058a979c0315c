use Rattle.std.proofs.lemmas.Result.{IfOk-weaker}
use Rattle.translate_term.specs.GrowLaws.{IsHeld-Grows, Grows-trans}
use Rattle.translate_rule.specs.OwnSteps.{own_scope}
use Rattle.translate_rule.specs.Steps.{content_at, TellsContent}
use Rattle.translate_rule.proofs.OwnLaws.{told-Grows, StandsFor-Made}
use Rattle.translate_rule.proofs.declaration.stated.Goals as goal

pub stated_in-made-requires-clause-step : goal.stated_in-made-requires-clause-step
stated_in-made-requires-clause-step c =
    let grows = c.in_ok-env.ensures.grows in
    record {
      id = c.requires.id;
      params = c.requires.params;
      kept = c.requires.kept;
      held = IsHeld-Grows _ _ grows c.requires.held;
      stands = StandsFor-Made grows c.args.proof.now (own_scope c.args.proof.now c.args.id) _ c.requires.held c.in_ok-env.ensures.made;
    }

pub stated_in-made-requires-clause-told : goal.stated_in-made-requires-clause-told
stated_in-made-requires-clause-told c =
    let q = c.requires.told in (
      q.0,
      told-Grows c.in_ok-env.ensures.grows (λ d. TellsContent d q.0 (content_at c.args.earlier.symbols.now c.args.proof.now.made c.args.id)) c.requires.held
          q.1,
    )

pub returns-clause-made : goal.returns-clause-made
returns-clause-made c =
    IfOk-weaker c.stated_in-made.result _ _
    (λ r h tables name told. h tables name
    (told-Grows c.in_ok-env.ensures.grows (λ d. TellsContent d tables (content_at c.args.earlier.symbols.now c.args.proof.now.made c.args.id))
    c.requires.held told)) c.stated_in-made.ensures.made

pub returns-clause-grows : goal.returns-clause-grows
returns-clause-grows c = Grows-trans c.in_ok-env.ensures.grows c.stated_in-made.ensures.grows
