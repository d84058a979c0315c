use Rattle.translate_proof.proofs.scope.Environment.new.Goals as goal

pub returns : goal.returns
returns c = record { nothing = record { types = c.new.ensures.types; terms = c.new.ensures.terms; proofs = c.new-2.ensures.empty } }
