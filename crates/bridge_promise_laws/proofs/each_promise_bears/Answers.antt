use Rattle.bridge_promise_laws.specs.Consequent as law
use Rattle.bridge_promise_laws.proofs.each_promise_bears.Goals as goal

pub returns : goal.returns
returns c = law.each_promise_bears
