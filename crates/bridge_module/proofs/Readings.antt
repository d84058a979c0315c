-- What the reader has of a file, piece by piece, and what comes of it at its end.
use Rattle.std.proofs.Common.{◌≡◌, ◌+◌, ◌-◌, ◌<◌, ◌≤◌, ℕ, List, [], ◌++◌, length, Option, None, Some, Result, Ok, Err, false, OnOk, IfOk, IfErr, refl, sym, ap, ap₂, subst, ◌∙◌, arith}
use Rattle.std.specs.Prelude.{IfSome}
use Rattle.std.specs.Result.{is_err}
use Rattle.std.proofs.lemmas.List.{length-append}
use Rattle.bridge_base.specs.Outside.{Files, Gives}
use Rattle.bridge_base.specs.Gaining.{gives_none, gives_both, given_whole}
use Rattle.lp_spec.specs.Modules.{Declaration}
use Rattle.lp_spec.specs.ReadingFaults.{refusal, refused, answer_within}
use Rattle.lp_spec.specs.Faults.{IsLeastWithin}
use Rattle.dk_laws.specs.LeastWithin.{answered-least, answer_within-place}
use Rattle.lp_spec.specs.declared.fault_kind.DkKind.{DkKind}
use Rattle.dk_read.specs.declared.faults.DkFault.{DkFault}
use Rattle.dk_read.specs.declared.faults.DkFault.TheVariants as fault
use Rattle.dk_read.specs.Readers.{Reading, IsFed, fed_with, IsWithin, IsRead, IsJudged, Judges, Feeds, GoesOn, Answers, place_of}
use Rattle.lp_spec.specs.FaultKinds.{fault_of}
use Rattle.dk_read.specs.Texts.{Refuses, Ends}
use Rattle.bridge_spec.specs.FileChecks.{max_file, ReadsAs}
use Rattle.bridge_module.specs.declared.reading.Stop.{Stop}
use Rattle.bridge_module.specs.declared.reading.Stop.TheVariants.{Refused, ReadFault, Memory}
use Rattle.bridge_module.specs.Stops.{stop_of, bytes_told, IsModuleOf, IsFedWhole, StopsText, StopsFile}

-- of the whole this is left, and the reader was fed what came before it
pub record IsReading (whole left : Option (List ℕ)) (r : Reading) : Type 0 where
  pub text : List ℕ
  pub limit : r.limit ≡ Some max_file
  pub fed : IsFed r text
  pub within : length text ≤ max_file
  pub given : Gives whole text left
  pub place : r.fault ≡ None → place_of r.progress ≡ length text

-- how many bytes the reader still takes, at most
abbrev room_by : Option DkFault → ℕ → ℕ
room_by None n = max_file - n
room_by (Some f) n = max_file + 1

abbrev pub room : Reading → ℕ
room r = room_by r.fault (place_of r.progress)

-- a reader that was fed nothing
pub none_read : (whole : Option (List ℕ)) (r : Reading) → r.limit ≡ Some max_file → IsFed r [] → IsReading whole whole r
none_read whole r limit fed = record {
  text = [];
  limit = limit;
  fed = fed;
  within = omega arith;
  given = gives_none whole;
  place =
      λ going. ap place_of (subst (λ f. fed_with f r []) going fed).0;
}

-- a reader that took a piece goes on
pub piece_read : (whole old left : Option (List ℕ)) (r s : Reading) (piece : List ℕ) (h : IsReading whole old r) → Gives old piece left → s.limit ≡ r.limit
    → Feeds r piece s → GoesOn r piece s
    → IsWithin r.limit (h.text ++ piece) → IsReading whole left s
piece_read whole old left r s piece h gives limit feeds goes within = record {
  text = h.text ++ piece;
  limit = limit ∙ h.limit;
  fed = feeds h.text h.fed;
  within = subst (λ n. IsWithin n (h.text ++ piece)) h.limit within;
  given = gives_both whole old left h.text piece h.given gives;
  place = λ going. (goes going).1 ∙ ap (λ n. n + length piece) (h.place (goes going).0) ∙ sym (length-append h.text piece);
}

-- a text that isn't refused is within the limit
pub judged-IsWithin : (limit : Option ℕ) (text : List ℕ) (r : Result (Unit {0}) DkFault) → ((f : DkFault) → r ≡ Err f → ⊥) → IsJudged limit text r
    → IsWithin limit text
judged-IsWithin limit text (Ok u) h judged = judged
judged-IsWithin limit text (Err f) h judged = absurd (h f refl)

-- a reader that answers well has not stopped
pub not_stopped : (f : Option DkFault) (u : Unit {0}) → Answers f (Ok u) → f ≡ None
not_stopped None u h = refl
not_stopped (Some f) u h = absurd h

-- and has less room
pub room_less : (whole left : Option (List ℕ)) (r s : Reading) (piece : List ℕ) (h : IsReading whole left r) → GoesOn r piece s → s.fault ≡ None
    → length (h.text ++ piece) ≤ max_file → 0 < length piece → room s < room r
room_less whole left r s piece h goes going within some =
    let old : room r ≡ max_file - place_of r.progress = ap (λ f. room_by f (place_of r.progress)) (goes going).0 in
    let new : room s ≡ max_file - (place_of r.progress + length piece) =
    ap (λ f. room_by f (place_of s.progress)) going ∙ ap (λ n. max_file - n) (goes going).1 in
    let place : place_of r.progress ≡ length h.text = h.place (goes going).0 in
    omega (arith, old, new, place, some, length-append h.text piece, within)

-- a text that goes on is refused, whatever follows
pub piece_refused : (whole left : Option (List ℕ)) (text : List ℕ) (f : DkFault) → Gives whole text left → IsJudged (Some max_file) text (Err f)
    → StopsText whole (stop_of f)
piece_refused None None text (fault.Refused p k) gives h = record { text = text ++ []; is = tt; refused = h.refuses [] }
piece_refused (Some whole) (Some left) text (fault.Refused p k) gives h = record { text = text ++ left; is = sym gives; refused = h.refuses left }
piece_refused None (Some left) text (fault.Refused p k) gives h = absurd gives
piece_refused (Some whole) None text (fault.Refused p k) gives h = absurd gives
piece_refused whole left text fault.Memory gives h = tt

-- so it is where it was fed to the reader
pub feed_refused : (whole old left : Option (List ℕ)) (r : Reading) (piece : List ℕ) (h : IsReading whole old r) (f : DkFault) → Gives old piece left
    → Judges r piece (Err f) → StopsText whole (stop_of f)
feed_refused whole old left r piece h f gives judges =
    piece_refused whole left (h.text ++ piece) f (gives_both whole old left h.text piece h.given gives)
    (subst (λ n. IsJudged n (h.text ++ piece) (Err f)) h.limit (judges h.text h.fed))

-- the whole was read
whole_read : (whole left : Option (List ℕ)) (text : List ℕ) → Gives whole text left → IfSome left (λ rest. rest ≡ []) → IfSome whole (λ bytes. text ≡ bytes)
whole_read None left text gives end = tt
whole_read (Some whole) left text gives end = sym (given_whole (Some whole) left text gives end)

-- at the end of a file the reader was fed it whole
pub fed_whole : (whole left : Option (List ℕ)) (r : Reading) → IsReading whole left r → IfSome left (λ rest. rest ≡ []) → IsFedWhole whole r
fed_whole whole left r h end = record { text = h.text; is = whole_read whole left h.text h.given end; within = h.within; limit = h.limit; fed = h.fed }

-- what comes of it: the module of its text
pub ended_well : (whole : Option (List ℕ)) (r : Reading) (h : IsFedWhole whole r) (m : List Declaration) → IsRead r.limit h.text m → IsModuleOf whole m
ended_well whole r h m is = record { text = h.text; is = h.is; within = h.within; reads = is.reads; only = is.only }

-- or its refusal
pub ended_badly : (whole : Option (List ℕ)) (r : Reading) (h : IsFedWhole whole r) (f : DkFault) → Ends (answer_within r.limit h.text) (Err f)
    → StopsText whole (stop_of f)
ended_badly whole r h (fault.Refused p k) is = record { text = h.text; is = h.is; refused = subst (λ n. Refuses (answer_within n h.text) p k) h.limit is }
ended_badly whole r h fault.Memory is = tt

-- the module of the bytes that are told of a file is that of the file
pub file_module : (told : Option Files) (name : List ℕ) (m : List Declaration) → IsModuleOf (bytes_told told name) m → ReadsAs told name m
file_module None name m h = record { text = h.text; read = tt; within = h.within; reads = h.reads; only = h.only }
file_module (Some files) name m h = record { text = h.text; read = h.is; within = h.within; reads = h.reads; only = h.only }

-- within the limit a refusal is that of the least fault, at its place
refused_least : (text : List ℕ) (p : ℕ) (k : DkKind) → Refuses (answer_within (Some max_file) text) p k
    → IsLeastWithin (Some max_file) text (refusal p (fault_of k))
refused_least text p k h =
    let within = answer_within-place max_file text h.r h.is in
    let place : p ≡ h.r.place = omega (arith, h.place, within) in
    answered-least (Some max_file) text (refusal p (fault_of k)) (h.is ∙ sym (ap₂ (λ q fault. refused (refusal q fault)) place h.fault))

-- so the stop of the bytes that are told of a file is that of the file
pub file_stop : (told : Option Files) (name : List ℕ) (stop : Stop) → StopsText (bytes_told told name) stop → StopsFile told name stop
file_stop None name (Refused p k) h = record { text = h.text; read = tt; refused = refused_least h.text p k h.refused }
file_stop (Some files) name (Refused p k) h = record { text = h.text; read = h.is; refused = refused_least h.text p k h.refused }
file_stop told name ReadFault h = tt
file_stop told name Memory h = tt

-- what holds on success holds where there is no error
pub without_error : {T E P : Type 0} (r : Result T E) → false ≡ is_err r → OnOk r P → P
without_error (Ok x) e p = p
without_error (Err e) f p = absurd (cc)

-- what holds of a success holds of it as what follows
pub on_success : {T E : Type 0} {P Q : T → Type 0} (r : Result T E) → IfOk r P → ((x : T) → P x → Q x) → IfOk r Q
on_success (Ok x) h f = f x h
on_success (Err e) h f = tt

-- what holds of an error holds of it as what follows
pub on_error : {T E : Type 0} {P Q : E → Type 0} (r : Result T E) → IfErr r P → ((e : E) → P e → Q e) → IfErr r Q
on_error (Ok x) h f = tt
on_error (Err e) h f = f e h
