-- What a proof's steps say derives from its definitions and its assumptions.
use Rattle.std.proofs.Common.{◌≡◌, ◌+◌, List, [], ◌∷◌, ◌++◌, length, Bool, true, false, refl, sym, ap, subst, ◌∙◌, arith}
use Rattle.std.specs.List.{AllByRecursion, IsAmong, filter_map}
use Rattle.std.proofs.lemmas.List.{get_or_append_left, length-append}
use Rattle.std.proofs.Math.Seq.{get_or-append_seam}
use Rattle.std.proofs.lemmas.List.Elements.{filter_map-append}
use Rattle.hol_spec.specs.Sequents.{Sequent}
use Rattle.hol_spec.specs.Definitions.{Definition}
use Rattle.hol_spec.specs.Derivations.{definitions_used, infers, Follows, Derives, DerivesAll}
use Rattle.hol_spec.specs.Derivations as derive
use Rattle.hol_spec.specs.Proofs.{Made, Step, steps_of, sequents_of, definitions_of, assumed_by, assumptions_of, ArePremises, IsStep, IsMade, Each, IsProof}
use Rattle.hol_spec.specs.Proofs as made
use Rattle.hol_laws.specs.Members.{All-append, All-weaker}
use Rattle.hol_proof_laws.specs.ProofGrowth.{steps_of-append, sequents_of-append, definitions_of-append, premises-All}

pub among-front : {A : Type 0} (xs ys : List A) (x : A) → IsAmong xs x → IsAmong (xs ++ ys) x
among-front xs ys x h = (
  h.0,
  (
    (let long : length (xs ++ ys) ≡ length xs + length ys = length-append xs ys in omega (arith, long, h.1.0)),
    h.1.1
        ∙ sym (get_or_append_left xs ys x h.0 h.1.0),
  ),
)

pub among-last : {A : Type 0} (xs : List A) (x : A) → IsAmong (xs ++ x ∷ []) x
among-last xs x = (
  length xs,
  ((let long : length (xs ++ x ∷ []) ≡ length xs + 1 = length-append xs (x ∷ []) in omega (arith, long)), sym (get_or-append_seam xs x [] x)),
)

pub all-front : {A : Type 0} (xs ys zs : List A) → AllByRecursion (IsAmong xs) zs → AllByRecursion (IsAmong (xs ++ ys)) zs
all-front xs ys zs h = All-weaker (IsAmong xs) (IsAmong (xs ++ ys)) (among-front xs ys) zs h

-- More definitions and more assumptions derive no less.
mutual
  derives-more : (ds es : List Definition) (ass bs : List Sequent) {s : Sequent} → Derives ds ass s → Derives (ds ++ es) (ass ++ bs) s
  derives-more ds es ass bs (derive.assumed {s = s} h) = derive.Derives.assumed (among-front ass bs s h)
  derives-more ds es ass bs (derive.inferred {kind = k} {premises = ps} {parameters = q} i h all) =
      derive.Derives.inferred i (record { rule = h.rule; defined = all-front ds es (definitions_used k ps q) h.defined }) (derive-more ds es ass bs all)

  derive-more : (ds es : List Definition) (ass bs : List Sequent) {ss : List Sequent} → DerivesAll ds ass ss → DerivesAll (ds ++ es) (ass ++ bs) ss
  derive-more ds es ass bs derive.DerivesAll.none = derive.DerivesAll.none
  derive-more ds es ass bs (derive.DerivesAll.more h all) = derive.DerivesAll.more (derives-more ds es ass bs h) (derive-more ds es ass bs all)

derives-all : (ds : List Definition) (ass : List Sequent) (ss : List Sequent) → AllByRecursion (Derives ds ass) ss → DerivesAll ds ass ss
derives-all ds ass [] h = derive.DerivesAll.none
derives-all ds ass (s ∷ ss) h = derive.DerivesAll.more h.0 (derives-all ds ass ss h.1)

assumptions_of-append : (xs ys : List Made) → assumptions_of (xs ++ ys) ≡ assumptions_of xs ++ assumptions_of ys
assumptions_of-append xs ys = ap (filter_map assumed_by) (steps_of-append xs ys) ∙ filter_map-append assumed_by (steps_of xs) (steps_of ys)

-- by what a proof has derives this
abbrev DerivesBy : List Made → Sequent → Type 0
DerivesBy m s = Derives (definitions_of m) (assumptions_of m) s

grown : (before : List Made) (x : Made) (s : Sequent) → DerivesBy before s → DerivesBy (before ++ x ∷ []) s
grown before x s h =
    subst (λ ds. Derives ds (assumptions_of (before ++ x ∷ [])) s) (sym (definitions_of-append before (x ∷ [])))
    (subst (λ bs. Derives (definitions_of before ++ definitions_of (x ∷ [])) bs s) (sym (assumptions_of-append before (x ∷ [])))
    (derives-more (definitions_of before) (definitions_of (x ∷ [])) (assumptions_of before) (assumptions_of (x ∷ [])) h))

new : (before : List Made) (x : Step) → AllByRecursion (DerivesBy before) (sequents_of before) → IsStep before x → (b : Bool) → infers x.kind ≡ b
    → DerivesBy (before ++ Made.step x ∷ []) x.sequent
new before x all h true e = grown before (Made.step x) x.sequent
    (derive.Derives.inferred e h.follows
    (derives-all (definitions_of before) (assumptions_of before) h.premises
    (premises-All (DerivesBy before) (sequents_of before) all x.premises h.premises h.earlier)))
new before x all h false e =
    subst (λ bs. Derives (definitions_of (before ++ Made.step x ∷ [])) bs x.sequent)
    (sym (assumptions_of-append before (Made.step x ∷ []) ∙ ap (λ o. assumptions_of before ++ o) last))
    (derive.Derives.assumed (among-last (assumptions_of before) x.sequent))
  where
    last : filter_map assumed_by (x ∷ []) ≡ x.sequent ∷ []
    last = rw e refl

-- The law of proofs.
pub proof-derives : (made : List Made) → IsProof made → AllByRecursion (Derives (definitions_of made) (assumptions_of made)) (sequents_of made)
proof-derives m made.Each.empty = tt
proof-derives m (made.Each.more {made = before} x p h is) =
    let earlier : AllByRecursion (DerivesBy (before ++ x ∷ [])) (sequents_of before) =
    All-weaker (DerivesBy before) (DerivesBy (before ++ x ∷ [])) (grown before x) (sequents_of before) (proof-derives before p) in
    subst (λ (w : List Made). AllByRecursion (DerivesBy w) (sequents_of w)) (sym is)
    (subst (AllByRecursion (DerivesBy (before ++ x ∷ []))) (sym (sequents_of-append before (x ∷ [])))
    (All-append (DerivesBy (before ++ x ∷ [])) (sequents_of before) (sequents_of (x ∷ [])) earlier (last x h (proof-derives before p))))
  where
    last : (x : Made) → IsMade before x → AllByRecursion (DerivesBy before) (sequents_of before)
        → AllByRecursion (DerivesBy (before ++ x ∷ [])) (sequents_of (x ∷ []))
    last (Made.symbol y) h all = tt
    last (Made.type_definition names c f i) h all = tt
    last (Made.step y) h all = (new before y all h (infers y.kind) refl, tt {0})
