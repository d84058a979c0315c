-- What a call that writes does to its sink.
use Rattle.std.specs.Prelude.{ℕ, List, Option, Result, OnOk, OnErr}
use Rattle.bridge_base.specs.Outside.{Gains, GainsFront, HasCause}

-- the sink got the text; where the call failed it got a front of it, and its count of faults rose
pub record Writes {T E : Type 0} (old : Option (List ℕ)) (faults : ℕ) (text : List ℕ) (new : Option (List ℕ)) (faults_now : ℕ) (result : Result T E) : Type 0
  where
    pub ok : OnOk result (Gains old text new)
    pub err : OnErr result (GainsFront old text new)
    pub cause : HasCause faults faults_now result
