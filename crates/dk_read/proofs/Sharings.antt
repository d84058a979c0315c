-- A reading over a table that is lent to it.
use Rattle.std.proofs.Common.{◌≡◌, inl, ℕ, ◌+◌, refl, sym, ap, subst, ◌∙◌, List, [], ◌∷◌, ◌++◌, length, drop, map, None, Some, Result, Ok, Err, OnOk, IfErr, arith}
use Rattle.std.proofs.lemmas.Bool.{ltb-true}
use Rattle.std.proofs.lemmas.Grind.{common_steps}
use Rattle.lp_spec.specs.Trees.{Tree}
use Rattle.lp_spec.specs.Text.{prelude}
use Rattle.lp_spec.specs.Tokens as tokens
use Rattle.lp_spec.specs.ReadingFaults as reading
use Rattle.lp_spec.specs.ModuleOrder.{IsModule}
use Rattle.holide_sig.specs.declared.module.Module.{Module}
use Rattle.holide_sig.specs.Modules.{declaration_in, AreDeclsKnown}
use Rattle.dk_read.specs.declared.faults.DkFault.{DkFault}
use Rattle.dk_read.specs.declared.parser.Parser.{Parser}
use Rattle.dk_read.specs.declared.stage.Stage.TheVariants as stage
use Rattle.dk_read.specs.declared.terms.State.TheVariants as state
use Rattle.dk_read.specs.declared.text.Text.{Text}
use Rattle.dk_read.specs.Firsts.{IsFirst}
use Rattle.dk_read.specs.States.{before, state_in, state_of, IsReading}
use Rattle.dk_read.specs.Texts.{inside, pending_in, common, Ends}
use Rattle.dk_read.specs.Readers.{Reading, IsFed, IsStage, Comes, Judges, EndsWith, progress_of}
use Rattle.dk_read.specs.Sharing.{with_table, parser_with, reading_of, HoldsSignature}
use Rattle.dk_read.proofs.Symbols.{first_reading}
use Rattle.dk_read.proofs.Openings.{opening_whole}
use Rattle.dk_read.proofs.Ended.{piece_feeds}
use Rattle.dk_read.proofs.Answered.{piece_judged}

-- nothing is declared before the first token, whatever the table
none_before : (p : Parser) (trees : List Tree) → IsFirst p → before (parser_with p trees) ≡ []
none_before p trees f = ap (map (declaration_in trees)) f.decls

-- a reading before the first token can go on over any table with the types of the signature
pub first_over : (p : Parser) (trees : List Tree) → IsFirst p → HoldsSignature trees → IsReading (parser_with p trees)
first_over p trees f h =
    let none = none_before p trees f in
    first_reading (parser_with p trees) (record { types = h.types; decls = subst (AreDeclsKnown trees) (sym f.decls) tt; distinct = h.distinct })
    (subst IsModule (sym none) tt) none f.nameless f.symbols f.frames f.variables f.kept f.binders f.head f.state

-- the signature's text has all bytes in common with itself
common_all : (text : List ℕ) → common text text ≡ length text
common_all [] = refl
common_all (b ∷ text) = grind (arith, common_steps, common_all text)

drop_all : (text : List ℕ) → drop (length text) text ≡ []
drop_all [] = refl
drop_all (b ∷ text) = drop_all text

prelude_read : reading.read_bytes reading.unread prelude ≡ reading.Inside (length prelude) tokens.Nothing [] reading.Between
prelude_read =
    opening_whole 0 prelude prelude (ltb-true 0 (length prelude) refl) (length prelude) (sym (common_all prelude)) refl
    ∙ ap (reading.read_bytes (reading.Inside (length prelude) tokens.Nothing [] reading.Between)) (drop_all prelude)

-- such a reading was fed the signature's text
pub first_fed : (t : Text) (trees : List Tree) → IsFirst t.parser → inside t ≡ reading.Inside (length prelude) tokens.Nothing [] reading.Between
    → IsFed (reading_of (with_table t trees)) prelude
first_fed t trees f e =
    let place : t.place ≡ length prelude = cc in
    let pending : pending_in t.word.items t.pending ≡ tokens.Nothing = cc in
    let between = f.state in
    let p = parser_with t.parser trees in
    let here : inside (with_table t trees) ≡ reading.Inside (length prelude) tokens.Nothing [] reading.Between =
    ap (λ i. reading.Inside i (pending_in t.word.items t.pending) (before p) (state_in p t.parser.state)) place
    ∙ ap (λ d. reading.Inside (length prelude) d (before p) (state_in p t.parser.state)) pending
    ∙ ap (λ m. reading.Inside (length prelude) tokens.Nothing m (state_in p t.parser.state)) (none_before t.parser trees f)
    ∙ ap (λ s. reading.Inside (length prelude) tokens.Nothing [] (state_in p s)) between in
    (here ∙ sym prelude_read, tt)

-- a table that is given back
pub given_back : (x y : Text) (us ts : List Tree) → y ≡ with_table x us → ts ≡ x.parser.module.table → with_table y ts ≡ x
given_back x y us ts e f = ap (λ (v : Text). with_table v ts) e ∙ ap (with_table x) f

-- what a piece is answered with
pub piece_shared : (t new : Text) (piece : List ℕ) (r : Result (Unit {0}) DkFault) → OnOk r (reading.read_bytes (inside t) piece ≡ inside new)
    → OnOk r (IsReading new.parser) → IfErr r (λ f. Comes (reading.read_bytes (inside t) piece) (stage.Stopped f)) → IfErr r (λ f. IsStage (stage.Stopped f))
    → Judges (reading_of t) piece r
piece_shared t new piece (Ok u) goes going stops place =
    piece_judged (reading_of t) (reading_of new) piece (Ok u) refl
    (λ text fed. piece_feeds None (stage.Inside t) (stage.Inside new) text piece refl going fed.0 tt tt goes) tt
piece_shared t new piece (Err f) goes going stops place =
    piece_judged (reading_of t) (record { limit = None; progress = progress_of (stage.Stopped f); fault = Some f }) piece (Err f) refl
    (λ text fed. piece_feeds None (stage.Inside t) (stage.Stopped f) text piece refl place fed.0 tt tt stops) (inl refl)

pub piece_fed : (t new : Text) (piece : List ℕ) (r : Result (Unit {0}) DkFault) → OnOk r (reading.read_bytes (inside t) piece ≡ inside new)
    → OnOk r (IsReading new.parser) → OnOk r ((text : List ℕ) → IsFed (reading_of t) text → IsFed (reading_of new) (text ++ piece))
piece_fed t new piece (Ok u) goes going = λ text fed. piece_feeds None (stage.Inside t) (stage.Inside new) text piece refl going fed.0 tt tt goes
piece_fed t new piece (Err f) goes going = tt

-- what the end of the text is answered with
pub ended_shared : (t u : Text) (r : Result Module DkFault) → u ≡ t → Ends (reading.read_end (inside u)) r → EndsWith (reading_of t) r
ended_shared t u r e h = λ text fed. subst (λ d. Ends (reading.read_end d) r) (ap (λ (x : Text). inside x) e ∙ fed.0) h
