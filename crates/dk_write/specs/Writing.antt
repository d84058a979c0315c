-- What a call that writes does to its sink and to what is gathered for it.
use Rattle.std.specs.Prelude.{◌≡◌, ℕ, List, [], ◌∷◌, ◌++◌, Option, Result, OnOk, OnErr}
use Rattle.std.specs.Borrow.{Bor}
use Rattle.bridge_base.specs.Outside.{Gains, GainsFront, HasCause}

-- these words, one after another
abbrev pub words_text : List (Bor (List ℕ)) → List ℕ
words_text [] = []
words_text (w ∷ ws) = w.now ++ words_text ws

-- of bytes that were to come to a sink, it got those before these
pub record Gained (old : Option (List ℕ)) (whole left : List ℕ) (now : Option (List ℕ)) : Type 0 where
  pub done : List ℕ
  pub gains : Gains old done now
  pub rest : whole ≡ done ++ left

-- of the bytes gathered before and the text, the sink got all but those gathered after; where the call failed it got a front of them, and its count of faults rose
pub record Writes {T E : Type 0} (old : Option (List ℕ)) (before : List ℕ) (faults : ℕ) (text : List ℕ) (new : Option (List ℕ)) (after : List ℕ)
    (faults_now : ℕ) (result : Result T E) : Type 0 where
  pub ok : OnOk result (Gained old (before ++ text) after new)
  pub err : OnErr result (GainsFront old (before ++ text) new)
  pub cause : HasCause faults faults_now result

-- the same of a sink, by what it got and its count of faults
abbrev pub WritesTo : {S T E : Type 0} → (S → Option (List ℕ)) → (S → ℕ) → S → List ℕ → List ℕ → S → List ℕ → Result T E → Type 0
WritesTo got faults sink before text sink_now after result = Writes (got sink) before (faults sink) text (got sink_now) after (faults sink_now) result
