-- What an answer says of the grammar.
use Rattle.std.proofs.Common.{◌≡◌, inl, inr, ℕ, ◌≤◌, refl, sym, ap, subst, ◌∙◌, Bool, true, false, List, [], ◌++◌, length, take, Option, None, Some, Result, Ok, Err, arith}
use Rattle.std.specs.Prelude.{nat_le, if◌then◌else◌, IfOk}
use Rattle.std.proofs.lemmas.Grind.{common_steps}
use Rattle.lp_spec.specs.Modules.{Declaration}
use Rattle.lp_spec.specs.Reading.{Reads}
use Rattle.lp_spec.specs.ReadingFaults as reading
use Rattle.dk_laws.specs.ReadingLaws.{Reads-answer, answer-Reads}
use Rattle.holide_sig.specs.declared.module.Module.{Module}
use Rattle.holide_sig.specs.Modules.{declarations_of}
use Rattle.dk_read.specs.declared.faults.DkFault.{DkFault}
use Rattle.dk_read.specs.declared.faults.DkFault.TheVariants as fault
use Rattle.lp_spec.specs.declared.fault_kind.DkKind.{DkKind}
use Rattle.lp_spec.specs.declared.fault_kind.DkKind.TheVariants as kind
use Rattle.lp_spec.specs.FaultKinds.{fault_of}
use Rattle.dk_read.specs.Texts.{Ends, Refuses}
use Rattle.dk_read.specs.Readers.{Reading, IsFed, fed_with, IsWithin, EndsWith, IsRead, ReadsAs, HasRead, Accepts, IsNoLength, IsNotTooLong, NeverTooLong, Feeds, Answers, IsHopeless, IsJudged, Judges}
use Rattle.dk_read.proofs.Unlimited as unlimited

-- a text that goes past its limit reads as no module
long_reads : (n : ℕ) (o : Option reading.Refusal) (m : List Declaration) → reading.or_too_long n o ≡ reading.reads m → ⊥
long_reads n None m h = absurd (cc (h))
long_reads n (Some r) m h = absurd (cc (h))

cut_reads : (n : ℕ) (done : reading.Progress) (m : List Declaration) → reading.cut_at n done ≡ reading.reads m → ⊥
cut_reads n (reading.Refused r) m h = absurd (cc (h))
cut_reads n (reading.Opening p wanted) m h = absurd (cc (h))
cut_reads n (reading.Inside p pending d s) m h = long_reads n (reading.cut_token d s pending) m h

limited : (n : ℕ) (text : List ℕ) (b : Bool) (m : List Declaration)
    → (if b then reading.answer text else reading.cut_at n (reading.read_bytes reading.unread (take n text))) ≡ reading.reads m → reading.answer text
    ≡ reading.reads m
limited n text true m h = h
limited n text false m h = absurd (cut_reads n (reading.read_bytes reading.unread (take n text)) m h)

read_by : (limit : Option ℕ) (text : List ℕ) (m : List Declaration) → reading.answer_within limit text ≡ reading.reads m → reading.answer text ≡ reading.reads m
read_by None text m h = h
read_by (Some n) text m h = limited n text (nat_le (length text) n) m h

kept_within : (n : ℕ) (text : List ℕ) (b : Bool) (m : List Declaration) → nat_le (length text) n ≡ b
    → (if b then reading.answer text else reading.cut_at n (reading.read_bytes reading.unread (take n text))) ≡ reading.reads m → length text ≤ n
kept_within n text true m e h = grind (arith, common_steps, e)
kept_within n text false m e h = absurd (cut_reads n (reading.read_bytes reading.unread (take n text)) m h)

reads_within : (limit : Option ℕ) (text : List ℕ) (m : List Declaration) → reading.answer_within limit text ≡ reading.reads m → IsWithin limit text
reads_within None text m h = tt
reads_within (Some n) text m h = kept_within n text (nat_le (length text) n) m refl h

same_module : (text : List ℕ) (m n : List Declaration) → reading.answer text ≡ reading.reads m → reading.answer text ≡ reading.reads n → n ≡ m
same_module text m n h k = cc (h, k)

read_within : (limit : Option ℕ) (text : List ℕ) (m : List Declaration) → reading.answer_within limit text ≡ reading.reads m → IsRead limit text m
read_within limit text m h =
    let is : reading.answer text ≡ reading.reads m = read_by limit text m h in
    record { within = reads_within limit text m h; reads = answer-Reads text m is; only = λ n reads. same_module text m n is (Reads-answer text n reads) }

-- within the limit the answer is the whole text's
pub within_answer : (limit : Option ℕ) (text : List ℕ) → IsWithin limit text → reading.answer_within limit text ≡ reading.answer text
within_answer None text h = refl
within_answer (Some n) text h =
    let e : nat_le (length text) n ≡ true = grind (arith, common_steps, h) in
    ap (λ b. if b then reading.answer text else reading.cut_at n (reading.read_bytes reading.unread (take n text))) e

pub module_read : (r : Reading) (result : Result Module DkFault) → EndsWith r result → IfOk result (λ m. ReadsAs r (declarations_of m))
module_read r (Ok m) h = λ text fed. read_within r.limit text (declarations_of m) (h text fed).0
module_read r (Err e) h = tt

read_is : (a : reading.Answer) (m : List Declaration) (result : Result Module DkFault) → a ≡ reading.reads m → Ends a result → HasRead m result
read_is a m (Ok n) e h = cc (e, h.0)
read_is a m (Err (fault.Refused p k)) e h = absurd (cc (e, h.is))
read_is a m (Err fault.Memory) e h = refl

pub text_accepted : (r : Reading) (result : Result Module DkFault) → EndsWith r result → Accepts r result
text_accepted r result h = λ text m fed within reads. read_is (reading.answer_within r.limit text) m result
    (within_answer r.limit text within ∙ Reads-answer text m reads) (h text fed)

-- no fault of an answer without a limit is the text's length
kind_is : (k : DkKind) (f : reading.Fault) → fault_of k ≡ f → unlimited.IsOfText f → IsNoLength k
kind_is kind.DkTooLong f e h = absurd (subst unlimited.IsOfText (sym e) h)
kind_is _ f e h = tt

refusal_is : (a : reading.Answer) (r : reading.Refusal) → a ≡ reading.refused r → unlimited.AnswersByText a → unlimited.IsOfText r.fault
refusal_is a r e h = subst unlimited.AnswersByText e h

refuses_unlimited : (text : List ℕ) (limit : Option ℕ) (p : ℕ) (k : DkKind) → limit ≡ None → Refuses (reading.answer_within limit text) p k → IsNoLength k
refuses_unlimited text limit p k e h = kind_is k h.r.fault h.fault
    (refusal_is (reading.answer text) h.r (ap (λ l. reading.answer_within l text) (sym e) ∙ h.is) (unlimited.answer_text text))

ends_unlimited : (text : List ℕ) (limit : Option ℕ) (result : Result Module DkFault) → limit ≡ None → Ends (reading.answer_within limit text) result
    → IsNotTooLong result
ends_unlimited text limit (Ok m) e h = tt
ends_unlimited text limit (Err (fault.Refused p k)) e h = refuses_unlimited text limit p k e h
ends_unlimited text limit (Err fault.Memory) e h = tt

pub never_too_long : (r : Reading) (result : Result Module DkFault) → EndsWith r result → NeverTooLong r result
never_too_long r result h = λ text fed free. ends_unlimited text r.limit result free (h text fed)

-- what a piece is answered with
refused_reads : (limit : Option ℕ) (text : List ℕ) (p : ℕ) (k : DkKind) (m : List Declaration) → Refuses (reading.answer_within limit text) p k
    → IsWithin limit text → Reads text m → ⊥
refused_reads limit text p k m h within reads =
    let is : reading.answer_within limit text ≡ reading.reads m = within_answer limit text within ∙ Reads-answer text m reads in
    absurd (cc (is, h.is))

hopeless : (limit : Option ℕ) (text : List ℕ) (p : ℕ) (k : DkKind) → ((more : List ℕ) → Refuses (reading.answer_within limit (text ++ more)) p k)
    → IsHopeless limit text p k
hopeless limit text p k h = record { refuses = h; unread = λ more m within reads. refused_reads limit (text ++ more) p k m (h more) within reads }

answered_fault : (f e : DkFault) (p : ℕ) (k : DkKind) → e ≡ fault.Refused p k → Answers (Some f) (Err e) → f ≡ fault.Refused p k
answered_fault f e p k is (inl same) = cc (is, same)
answered_fault f e p k is (inr (memory, named)) = absurd (cc (is, memory))

judged : (limit : Option ℕ) (new : Reading) (o : Option DkFault) (text : List ℕ) (result : Result (Unit {0}) DkFault) → new.limit ≡ limit → new.fault ≡ o
    → IsFed new text → Answers o result → IsJudged limit text result
judged limit new None text (Ok u) l e fed h = subst (λ w. IsWithin w text) l (subst (λ w. fed_with w new text) e fed).1
judged limit new None text (Err f) l e fed h = absurd h
judged limit new (Some g) text (Ok u) l e fed h = absurd h
judged limit new (Some g) text (Err fault.Memory) l e fed h = tt
judged limit new (Some g) text (Err (fault.Refused p k)) l e fed h =
    let is : g ≡ fault.Refused p k = answered_fault g (fault.Refused p k) p k refl h in
    let refuses : (more : List ℕ) → Refuses (reading.answer_within new.limit (text ++ more)) p k = subst (λ w. fed_with w new text) (e ∙ ap Some is) fed in
    hopeless limit text p k (subst (λ w. (more : List ℕ) → Refuses (reading.answer_within w (text ++ more)) p k) l refuses)

pub piece_judged : (old new : Reading) (piece : List ℕ) (result : Result (Unit {0}) DkFault) → new.limit ≡ old.limit → Feeds old piece new
    → Answers new.fault result → Judges old piece result
piece_judged old new piece result l feeds h = λ text fed. judged old.limit new new.fault (text ++ piece) result l refl (feeds text fed) h

judged_unlimited : (limit : Option ℕ) (text : List ℕ) (result : Result (Unit {0}) DkFault) → limit ≡ None → IsJudged limit text result → IsNotTooLong result
judged_unlimited limit text (Ok u) e h = tt
judged_unlimited limit text (Err (fault.Refused p k)) e h = refuses_unlimited (text ++ []) limit p k e (h.refuses [])
judged_unlimited limit text (Err fault.Memory) e h = tt

pub piece_unlimited : (old : Reading) (piece : List ℕ) (result : Result (Unit {0}) DkFault) → Judges old piece result → NeverTooLong old result
piece_unlimited old piece result h = λ text fed free. judged_unlimited old.limit (text ++ piece) result free (h text fed)
