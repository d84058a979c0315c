use Rattle.hol_laws.specs.TermInstances.{put-close}
use Rattle.hol_laws.proofs.put_close.Goals as goal

pub returns : goal.returns
returns c = put-close
