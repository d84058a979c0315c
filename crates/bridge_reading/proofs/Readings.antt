-- Commands that are obeyed while a text is read.
use Rattle.std.proofs.Common.{◌≡◌, ℕ, List, [], ◌∷◌, ◌++◌, Option, None, Some, Result, Ok, Err, IfSome, refl, sym, ap, subst, ◌∙◌, append_assoc, ◌<◌, arith}
use Rattle.common.specs.declared.faults.Kind.{Kind}
use Rattle.common.specs.declared.faults.Fault.TheVariants as fault
use Rattle.bridge_base.specs.Outside.{Gives}
use Rattle.bridge_base.specs.Gaining.{gives_none, gives_both, given_whole}
use Rattle.article_read.specs.declared.lines.LineFault.{LineFault}
use Rattle.article_read.specs.declared.lines.LineFault.TheVariants as line_fault
use Rattle.article_read.specs.Reading.{Reading, fresh, fed_with, IsFed, Feeds, Ends, EndsWith}
use Rattle.article_spec.specs.declared.commands.Command.{Command}
use Rattle.article_laws.specs.LineLaws.{Stops-append}
use Rattle.article_spec.specs.Lines.{Opens, open_line, Stops, stops, End, ended, refused, Lines}
use Rattle.article_laws.specs.ReadingLaws.{one_reading, opens_front}
use Rattle.hol_spec.specs.Mangling.{AreBytes}
use Rattle.hol_laws.specs.Members.{All-append}
use Rattle.article_spec.specs.Results.{◌>>=◌}
use Rattle.article_spec.specs.State.{State}
use Rattle.article_spec.specs.Step.{finish}
use Rattle.article_spec.specs.Run.{machine, at_line, obey_all}
use Rattle.bridge_reading.specs.Halts.{Halts, ReadsTo, Passes, IsRefused, IsTold, OfText, HaltsText, halt_of_line}
use Rattle.bridge_reading.specs.declared.reading.Halt.{Halt}
use Rattle.bridge_reading.specs.declared.reading.Halt.TheVariants as halt

joined : (xs ys : List Command) (r : Result State (ℕ × Kind))
    → ((t : State) → obey_all machine t (xs ++ ys) ≡ (obey_all machine t xs >>= λ u. obey_all machine u ys))
    → (r >>= λ t. obey_all machine t (xs ++ ys)) ≡ ((r >>= λ t. obey_all machine t xs) >>= λ u. obey_all machine u ys)
joined xs ys (Ok t) h = h t
joined xs ys (Err r) h = refl

-- To obey two lists is to obey one after the other.
pub obey_all-append : (xs ys : List Command) (s : State) → obey_all machine s (xs ++ ys) ≡ (obey_all machine s xs >>= λ t. obey_all machine t ys)
obey_all-append [] ys s = refl
obey_all-append (x ∷ xs) ys s = joined xs ys (at_line x.line (machine.command s x)) (obey_all-append xs ys)

obeyed_more : (xs ys : List Command) (s t u : State) → obey_all machine s xs ≡ Ok t → obey_all machine t ys ≡ Ok u → obey_all machine s (xs ++ ys) ≡ Ok u
obeyed_more xs ys s t u e f = obey_all-append xs ys s ∙ rw (e, f) refl

halted_more : (xs ys : List Command) (s t : State) (r : ℕ × Kind) → obey_all machine s xs ≡ Ok t → obey_all machine t ys ≡ Err r → obey_all machine s (xs ++ ys)
    ≡ Err r
halted_more xs ys s t r e f = obey_all-append xs ys s ∙ rw (e, f) refl

halted_front : (xs ys : List Command) (s : State) (r : ℕ × Kind) → obey_all machine s xs ≡ Err r → obey_all machine s (xs ++ ys) ≡ Err r
halted_front xs ys s r e = obey_all-append xs ys s ∙ rw e refl

-- This holds of the text that was read to some place, whatever follows there.
text_so_far : (start left : Option (List ℕ)) (fed : List ℕ) (P : List ℕ → Type 0) → AreBytes fed → Gives start fed left → ((rest : List ℕ) → P (fed ++ rest))
    → OfText start P
text_so_far None None fed P b g f = record { text = fed ++ []; is = All-append (λ n. n < 256) fed [] b tt; holds = f [] }
text_so_far (Some all) (Some rest) fed P b g f = record { text = all; is = refl; holds = subst P (sym g) (f rest) }
text_so_far None (Some rest) fed P b g f = absurd g
text_so_far (Some all) None fed P b g f = absurd g

told_same : (start : Option (List ℕ)) (fed : List ℕ) → AreBytes fed → IfSome start (λ whole. whole ≡ fed) → IsTold start fed
told_same None fed b h = b
told_same (Some all) fed b h = sym h

-- This holds of the text that was read to its end.
text_to_end : (start left : Option (List ℕ)) (fed : List ℕ) (P : List ℕ → Type 0) → AreBytes fed → Gives start fed left → IfSome left (λ rest. rest ≡ [])
    → P fed → OfText start P
text_to_end start left fed P b g end h = record { text = fed; is = told_same start fed b (given_whole start left fed g end); holds = h }

-- What follows from what holds of a text holds of it.
pub of_text-follows : (told : Option (List ℕ)) (P Q : List ℕ → Type 0) → OfText told P → ((text : List ℕ) → P text → Q text) → OfText told Q
of_text-follows told P Q h f = record { text = h.text; is = h.is; holds = f h.text h.holds }

-- Some of a text is fed, and its commands are obeyed.
pub record IsRead (start left : Option (List ℕ)) (before now : State) (lines : Reading) : Type 0 where
  pub fed : List ℕ
  pub bytes : AreBytes fed
  pub gave : Gives start fed left
  pub given : List Command
  pub read : IsFed lines fed given
  pub obeyed : obey_all machine before given ≡ Ok now

-- At first nothing is.
pub none_read : (start : Option (List ℕ)) (s : State) → IsRead start start s s fresh
none_read start s = record {
  fed = [];
  bytes = tt;
  gave = gives_none start;
  given = [];
  read =
      open_line (record { one_line = tt; short = omega arith; within = omega arith });
  obeyed = refl;
}

-- A piece that is fed, with its commands.
pub record IsPiece (start new : Option (List ℕ)) (before now : State) (lines : Reading) (commands : List Command) : Type 0 where
  pub fed : List ℕ
  pub bytes : AreBytes fed
  pub gave : Gives start fed new
  pub given : List Command
  pub read : IsFed lines fed (given ++ commands)
  pub obeyed : obey_all machine before given ≡ Ok now

pub piece_read : (start old new : Option (List ℕ)) (before now : State) (lines next : Reading) (piece : List ℕ) (cleared commands : List Command)
    → IsRead start old before now lines → AreBytes piece → Gives old piece new → cleared ≡ [] → Feeds lines piece cleared commands next
    → IsPiece start new before now next commands
piece_read start old new before now lines next piece cleared commands r b g e f =
    record {
      fed = r.fed ++ piece;
      bytes = All-append (λ n. n < 256) r.fed piece r.bytes b;
      gave = gives_both start old new r.fed piece r.gave g;
      given = r.given;
      read = subst (λ cs. IsFed next (r.fed ++ piece) (r.given ++ cs)) (sym (f.is ∙ ap (λ xs. xs ++ f.added) e)) (f.fed r.fed r.given r.read);
      obeyed = r.obeyed;
    }

-- Its commands are obeyed.
pub piece_obeyed : (start new : Option (List ℕ)) (before now after : State) (lines : Reading) (commands : List Command)
    → IsPiece start new before now lines commands → obey_all machine now commands ≡ Ok after → IsRead start new before after lines
piece_obeyed start new before now after lines commands p e =
    record {
      fed = p.fed;
      bytes = p.bytes;
      gave = p.gave;
      given = p.given ++ commands;
      read = p.read;
      obeyed =
          obeyed_more p.given commands before now after p.obeyed e;
    }

-- A run of the commands of a text's front is refused as the text's is.
refused_of_all : (text : List ℕ) (before : State) (line : ℕ) (kind : Kind) (commands : List Command) (end : End) → Lines text commands end
    → obey_all machine before commands ≡ Err (line, kind) → IsRefused text before line kind
refused_of_all text before line kind commands end l e = record { commands = commands; end = end; lines = l; refused = rw e refl }

refused_of_front : (front more : List ℕ) (before : State) (line : ℕ) (kind : Kind) (commands : List Command) (n o : ℕ) (line_text : List ℕ)
    → Opens 1 0 front commands n o line_text → obey_all machine before commands ≡ Err (line, kind) → IsRefused (front ++ more) before line kind
refused_of_front front more before line kind commands n o line_text h e =
    let r = one_reading (front ++ more) in
    let f = opens_front front more commands r.commands n o line_text r.end h r.read in
    refused_of_all (front ++ more) before line kind r.commands r.end r.read
    (ap (obey_all machine before) f.is ∙ halted_front commands f.rest before (line, kind) e)

refused_of_fed : (fault : Option LineFault) (lines : Reading) (fed rest : List ℕ) (before : State) (line : ℕ) (kind : Kind) (commands : List Command)
    → fed_with fault lines fed commands → obey_all machine before commands ≡ Err (line, kind) → IsRefused (fed ++ rest) before line kind
refused_of_fed None lines fed rest before line kind commands h e = refused_of_front fed rest before line kind commands lines.number lines.offset lines.rest h e
refused_of_fed (Some (line_fault.Refused l k)) lines fed rest before line kind commands h e =
    refused_of_all (fed ++ rest) before line kind commands (refused l k) (stops (Stops-append h rest)) e
refused_of_fed (Some line_fault.Memory) lines fed rest before line kind commands h e =
    subst (λ xs. IsRefused xs before line kind) (sym (append_assoc h.front h.back rest) ∙ ap (λ xs. xs ++ rest) (sym h.is))
    (refused_of_front h.front (h.back ++ rest) before line kind commands h.number h.offset h.rest h.opens e)

-- Its commands are refused.
pub piece_halted : (start new : Option (List ℕ)) (before now : State) (lines : Reading) (commands : List Command) (why : Halt)
    → IsPiece start new before now lines commands → Halts why (obey_all machine now commands) → HaltsText why start before
piece_halted start new before now lines commands (halt.Refused line kind) p e =
    text_so_far start new p.fed (λ text. IsRefused text before line kind) p.bytes p.gave
    (λ rest. refused_of_fed lines.fault lines p.fed rest before line kind (p.given ++ commands) p.read
    (halted_more p.given commands before now (line, kind) p.obeyed e))
piece_halted start new before now lines commands halt.ReadFault p e = tt
piece_halted start new before now lines commands halt.Memory p e = tt

-- Its commands are obeyed, and it has a faulty line.
pub piece_faulty : (start new : Option (List ℕ)) (before now after : State) (lines : Reading) (commands : List Command) (why : LineFault)
    → IsPiece start new before now lines commands → obey_all machine now commands ≡ Ok after → lines.fault ≡ Some why
    → HaltsText (halt_of_line why) start before
piece_faulty start new before now after lines commands (line_fault.Refused line kind) p e q =
    let h : Stops 1 0 p.fed (p.given ++ commands) line kind = subst (λ o. fed_with o lines p.fed (p.given ++ commands)) q p.read in
    text_so_far start new p.fed (λ text. IsRefused text before line kind) p.bytes p.gave (λ rest. record {
      commands = p.given ++ commands;
      end = refused line kind;
      lines = stops (Stops-append h rest);
      refused = rw (obeyed_more p.given commands before now after p.obeyed e) refl;
    })
piece_faulty start new before now after lines commands line_fault.Memory p e q = tt

-- The text ends, and its last commands are obeyed.
pub last_obeyed : (start left : Option (List ℕ)) (before now after : State) (lines : Reading) (commands : List Command) (line : ℕ)
    → IsRead start left before now lines → IfSome left (λ rest. rest ≡ []) → EndsWith lines [] commands (Ok line) → obey_all machine now commands ≡ Ok after
    → OfText start (λ text. ReadsTo text before after)
last_obeyed start left before now after lines commands line r h f e =
    text_to_end start left r.fed (λ text. ReadsTo text before after) r.bytes r.gave h (record {
      bytes = r.bytes;
      commands = r.given ++ commands;
      line = line;
      lines = subst (λ cs. Lines r.fed (r.given ++ cs) (ended line)) (sym f.is) (f.lines r.fed r.given r.read);
      obeyed = obeyed_more r.given commands before now after r.obeyed e;
    })

last_refused : (start left : Option (List ℕ)) (before now : State) (lines : Reading) (commands : List Command) (end : End) (line : ℕ) (kind : Kind)
    → IsRead start left before now lines → IfSome left (λ rest. rest ≡ []) → Ends lines [] commands end → obey_all machine now commands ≡ Err (line, kind)
    → OfText start (λ text. IsRefused text before line kind)
last_refused start left before now lines commands end line kind r h f e =
    text_to_end start left r.fed (λ text. IsRefused text before line kind) r.bytes r.gave h
    (refused_of_all r.fed before line kind (r.given ++ commands) end
    (subst (λ cs. Lines r.fed (r.given ++ cs) end) (sym f.is) (f.lines r.fed r.given r.read))
    (halted_more r.given commands before now (line, kind) r.obeyed e))

-- The text ends, and its last commands are refused.
pub last_halted : (start left : Option (List ℕ)) (before now : State) (lines : Reading) (commands : List Command) (answer : Result ℕ LineFault) (why : Halt)
    → IsRead start left before now lines → IfSome left (λ rest. rest ≡ []) → EndsWith lines [] commands answer → Halts why (obey_all machine now commands)
    → HaltsText why start before
last_halted start left before now lines commands (Ok n) (halt.Refused line kind) r h f e =
    last_refused start left before now lines commands (ended n) line kind r h f e
last_halted start left before now lines commands (Err (line_fault.Refused l k)) (halt.Refused line kind) r h f e =
    last_refused start left before now lines commands (refused l k) line kind r h f e
last_halted start left before now lines commands (Err line_fault.Memory) (halt.Refused line kind) r h f e =
    let g : ◌≡◌ {A = Result State (ℕ × Kind)} (Ok now) (Err (line, kind)) = ap (obey_all machine now) (sym f) ∙ e in absurd (cc)
last_halted start left before now lines commands answer halt.ReadFault r h f e = tt
last_halted start left before now lines commands answer halt.Memory r h f e = tt

-- The text ends with a faulty line.
pub last_faulty : (start left : Option (List ℕ)) (before now after : State) (lines : Reading) (commands : List Command) (why : LineFault)
    → IsRead start left before now lines → IfSome left (λ rest. rest ≡ []) → EndsWith lines [] commands (Err why) → obey_all machine now commands ≡ Ok after
    → HaltsText (halt_of_line why) start before
last_faulty start left before now after lines commands (line_fault.Refused line kind) r h f e =
    text_to_end start left r.fed (λ text. IsRefused text before line kind) r.bytes r.gave h (record {
      commands = r.given ++ commands;
      end = refused line kind;
      lines = subst (λ cs. Lines r.fed (r.given ++ cs) (refused line kind)) (sym f.is) (f.lines r.fed r.given r.read);
      refused = rw (obeyed_more r.given commands before now after r.obeyed e) refl;
    })
last_faulty start left before now after lines commands line_fault.Memory r h f e = tt

-- A text that is read to its end passes, where the article is ended there.
pub text-passes : (text : List ℕ) (before s next : State) → ReadsTo text before s → finish s ≡ Ok next → Passes text before next
text-passes text before s next r e = record
    { bytes = r.bytes; commands = r.commands; end = ended r.line; lines = r.lines; passed = rw r.obeyed (ap (at_line r.line) e) }
