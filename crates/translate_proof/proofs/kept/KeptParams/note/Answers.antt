use Rattle.std.proofs.Common.{Some}
use Rattle.std.proofs.lemmas.List.Elements.{All-set}
use Rattle.translate_proof.specs.Keeping.{IsKept}
use Rattle.translate_proof.proofs.kept.KeptParams.note.Goals as goal

pub returns-in_err-reach : goal.returns-in_err-reach
returns-in_err-reach c = record { kept = c.reach.ensures.kept c.args.proof.now c.requires.kept }

pub returns-in_err-params : goal.returns-in_err-params
returns-in_err-params c = record { kept = c.reach.ensures.kept c.args.proof.now c.requires.kept }

pub returns : goal.returns
returns c = record {
  kept = record {
    each = All-set (IsKept c.args.proof.now) _ _ (Some (record { id = c.args.id; params = c.in_ok-params.params })) c.in_ok-params.ensures
        (c.reach.ensures.kept c.args.proof.now c.requires.kept).each;
  };
}
