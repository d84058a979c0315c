-- What a byte, and the end of the text, do to a reader.
use Rattle.std.proofs.Common.{◌≡◌, ℕ, ◌+◌, ◌<◌, ◌≤◌, List, [], ◌∷◌, ◌++◌, Option, None, Some, Ok, Err, length, refl, sym, ap, subst, ◌∙◌, append_assoc, length-append, arith}
use Rattle.std.proofs.lemmas.List.{append-nil}
use Rattle.common.specs.declared.faults.Kind.{Kind}
use Rattle.common.specs.declared.faults.Kind.TheVariants.{LineTooLong, InputTooLong}
use Rattle.article_spec.specs.declared.commands.Command.{Command}
use Rattle.article_spec.specs.Contents.{Content, skipped, command, faulty, content}
use Rattle.article_spec.specs.Lines.{newline, max_line, max_article, IsLine, command_at, EndedLine, Opens, open_line, skips, gives, Stops, faults, long_line, long_article, ended, Lines, last_skipped, last_gives, last_faults, stops}
use Rattle.article_laws.specs.LineLaws.{opens_then, stops_then, Stops-append}
use Rattle.article_read.specs.declared.lines.LineFault.{LineFault}
use Rattle.article_read.specs.declared.lines.LineFault.TheVariants.{Memory, Refused}
use Rattle.article_read.specs.Reading.{Reading, fed_with, IsFed, Feeds, Ends, EndsWith, IsKept, commands_of, GivesLine, RefusesLine}
use Rattle.article_read.specs.OpenLines.{FeedsPart, HasRoom, line_room, article_room, Keeps, AnswersLine, behind_line}
use Rattle.article_read.proofs.Cuts.{IsLine-append, CutAt-of}

-- a reader at an open line, and one that has stopped there
abbrev pub open_at : ℕ → ℕ → List ℕ → Reading
open_at n o line = record { number = n; offset = o; rest = line; fault = None }

abbrev pub stopped_at : ℕ → ℕ → List ℕ → LineFault → Reading
stopped_at n o line fault = record { number = n; offset = o; rest = line; fault = Some fault }

-- nothing is added, and a text that is fed opens a further line or stops
goes : {a b : Reading} {piece : List ℕ} {out : List Command} → ((text : List ℕ) (given : List Command) → IsFed a text given → IsFed b (text ++ piece) given)
    → Feeds a piece out out b
goes {b = b} {piece = piece} {out = out} h = record
    { added = []; is = sym (append-nil out); fed = λ text given f. subst (IsFed b (text ++ piece)) (sym (append-nil given)) (h text given f) }

-- no byte
pub feeds_nothing : (r : Reading) (out : List Command) → Feeds r [] out out r
feeds_nothing r out = goes (λ text given f. subst (λ t. IsFed r t given) (sym (append-nil text)) f)

-- two pieces
pub feeds_both : {a b c : Reading} {xs ys : List ℕ} {p q r : List Command} → Feeds a xs p q b → Feeds b ys q r c → Feeds a (xs ++ ys) p r c
feeds_both {c = c} {xs = xs} {ys = ys} {p = p} h k = record {
  added = h.added ++ k.added;
  is = k.is ∙ ap (λ zs. zs ++ k.added) h.is ∙ append_assoc p h.added k.added;
  fed = λ text given f. subst (λ t. IsFed c t (given ++ (h.added ++ k.added))) (append_assoc text xs ys)
      (subst (λ cs. IsFed c ((text ++ xs) ++ ys) cs) (append_assoc given h.added k.added) (k.fed (text ++ xs) (given ++ h.added) (h.fed text given f)));
}

-- what follows a fault changes nothing
more_with : (fault : LineFault) (r : Reading) (text more : List ℕ) (given : List Command) → fed_with (Some fault) r text given
    → fed_with (Some fault) r (text ++ more) given
more_with (Refused line kind) r text more given h = Stops-append h more
more_with Memory r text more given h = record {
  front = h.front;
  back = h.back ++ more;
  is = ap (λ t. t ++ more) h.is ∙ append_assoc h.front h.back more;
  number = h.number;
  offset = h.offset;
  rest =
      h.rest;
  opens = h.opens;
}

pub feeds_more : {a b : Reading} {xs : List ℕ} {p q : List Command} (fault : LineFault) → b.fault ≡ Some fault → Feeds a xs p q b → (more : List ℕ)
    → Feeds a (xs ++ more) p q b
feeds_more {b = b} {xs = xs} fault e h more = record {
  added = h.added;
  is = h.is;
  fed = λ text given f.
      let stopped : fed_with (Some fault) b (text ++ xs) (given ++ h.added) =
      subst (λ x. fed_with x b (text ++ xs) (given ++ h.added)) e (h.fed text given f) in
      subst (λ t. IsFed b t (given ++ h.added)) (append_assoc text xs more)
      (subst (λ x. fed_with x b ((text ++ xs) ++ more) (given ++ h.added)) (sym e) (more_with fault b (text ++ xs) more (given ++ h.added) stopped));
}

-- a reader that has stopped takes a piece
pub feeds_stopped : (r : Reading) (fault : LineFault) → r.fault ≡ Some fault → (piece : List ℕ) (out : List Command) → Feeds r piece out out r
feeds_stopped r fault e piece out = feeds_more fault e (feeds_nothing r out) piece

-- what a reader that has stopped still holds doesn't matter
Feeds-stopped : (fault : LineFault) (a b r : Reading) (piece : List ℕ) (p q : List Command) → b.fault ≡ Some fault → r.fault ≡ Some fault → Feeds a piece p q b
    → Feeds a piece p q r
Feeds-stopped (Refused line kind) a b r piece p q eb er h = record {
  added = h.added;
  is = h.is;
  fed = λ text given f. subst (λ x. fed_with x r (text ++ piece) (given ++ h.added)) (sym er)
      (subst (λ x. fed_with x b (text ++ piece) (given ++ h.added)) eb (h.fed text given f));
}
Feeds-stopped Memory a b r piece p q eb er h = record {
  added = h.added;
  is = h.is;
  fed = λ text given f. subst (λ x. fed_with x r (text ++ piece) (given ++ h.added)) (sym er)
      (subst (λ x. fed_with x b (text ++ piece) (given ++ h.added)) eb (h.fed text given f));
}

module _ (n o : ℕ) (line : List ℕ) (kept : IsKept n o line) (out : List Command) where
  -- a further part of the open line
  pub feeds_part : (part : List ℕ) → IsLine part → length line + length part ≤ max_line → o + length line + length part ≤ max_article
      → Feeds (open_at n o line) part out out (open_at n o (line ++ part))
  feeds_part part is short within = goes (λ text given f.
      subst (λ cs. Opens 1 0 (text ++ part) cs n o (line ++ part)) (append-nil given)
      (opens_then f part
      (open_line (record {
        one_line = IsLine-append line part kept.line.one_line is;
        short = omega (arith, short, length-append line part);
        within = omega (arith, within, length-append line part);
      }))))

  -- want of memory
  pub feeds_memory : (piece : List ℕ) → Feeds (open_at n o line) piece out out (stopped_at n o line Memory)
  feeds_memory piece = goes (λ text given f. record { front = text; back = piece; is = refl; number = n; offset = o; rest = line; opens = f })

  -- a part with a byte past a limit
  pub feeds_over : {room : ℕ} {kind : Kind} → (part : List ℕ) → IsLine part → room < length part → HasRoom o (length line) room kind
      → Feeds (open_at n o line) part out out (stopped_at n o line (Refused n kind))
  feeds_over {room = room} part is over (line_room full within) =
      let c = CutAt-of part room over is in
      goes (λ text given f.
      subst (λ cs. Stops 1 0 (text ++ part) cs n LineTooLong) (append-nil given)
      (stops_then f part
      (long_line (record {
        line = line ++ c.front;
        byte = c.byte;
        more = c.back;
        is = ap (λ xs. line ++ xs) c.is ∙ sym (append_assoc line c.front (c.byte ∷ c.back));
        one_line = IsLine-append line c.front kept.line.one_line c.line;
        other = c.other;
        full = omega (arith, full, c.counted, length-append line c.front);
        within = within;
      }))))
  feeds_over {room = room} part is over (article_room full short) =
      let c = CutAt-of part room over is in
      let few : length (line ++ c.front) < max_line = omega (arith, short, c.counted, length-append line c.front) in
      goes (λ text given f.
      subst (λ cs. Stops 1 0 (text ++ part) cs n InputTooLong) (append-nil given)
      (stops_then f part
      (long_article (record {
        line = line ++ c.front;
        byte = c.byte;
        more = c.back;
        is = ap (λ xs. line ++ xs) c.is ∙ sym (append_assoc line c.front (c.byte ∷ c.back));
        one_line = IsLine-append line c.front kept.line.one_line c.line;
        short = omega (arith, few);
        first = λ h. absurd (omega (arith, few, h));
        full = omega (arith, full, c.counted, length-append line c.front);
      }))))

  -- a newline past the limit of the article
  pub feeds_full : o + length line ≡ max_article → Feeds (open_at n o line) (newline ∷ []) out out (stopped_at n o line (Refused n InputTooLong))
  feeds_full full = goes (λ text given f.
      subst (λ cs. Stops 1 0 (text ++ newline ∷ []) cs n InputTooLong) (append-nil given)
      (stops_then f (newline ∷ [])
      (long_article (record {
        line = line;
        byte = newline;
        more = [];
        is = refl;
        one_line = kept.line.one_line;
        short = kept.line.short;
        first = λ _. refl;
        full = full;
      }))))

  -- the newline of the open line
  line_of : (says : Content) → content line ≡ says → o + length line < max_article → EndedLine o (line ++ newline ∷ []) line [] says
  line_of says e room = record { is = refl; one_line = kept.line.one_line; short = kept.line.short; within = room; means = e }

  next : (room : o + length line < max_article) → Opens (n + 1) (o + length line + 1) [] [] (n + 1) (o + length line + 1) []
  next room = open_line (record { one_line = tt; short = omega arith; within = omega (arith, room) })

  ended_with : (says : Content) (added : List Command) → content line ≡ says → commands_of n says ≡ Some added → o + length line < max_article
      → Opens n o (line ++ newline ∷ []) added (n + 1) (o + length line + 1) []
  ended_with skipped added e g room = let none : [] ≡ added = cc in rw (← none) (skips (line_of skipped e room) (next room))
  ended_with (command i) added e g room = let one : command_at n i ∷ [] ≡ added = cc in rw (← one) (gives (line_of (command i) e room) (next room))
  ended_with (faulty k) added e g room = absurd (cc)

  pub feeds_newline : (after : List Command) → o + length line < max_article → GivesLine n line out after
      → Feeds (open_at n o line) (newline ∷ []) out after (open_at (n + 1) (o + length line + 1) [])
  feeds_newline after room g = record
      { added = g.added; is = g.is; fed = λ text given f. opens_then f (newline ∷ []) (ended_with (content line) g.added refl g.gives room) }

  -- a faulty line ends
  pub feeds_fault : (fault : LineFault) → o + length line < max_article → RefusesLine fault n line
      → Feeds (open_at n o line) (newline ∷ []) out out (stopped_at n o line fault)
  feeds_fault Memory room h = feeds_memory (newline ∷ [])
  feeds_fault (Refused m kind) room h = goes (λ text given f.
      subst (λ cs. Stops 1 0 (text ++ newline ∷ []) cs m kind) (append-nil given)
      (rw (h.here) (stops_then f (newline ∷ []) (faults (line_of (faulty kind) h.says room)))))

  -- the open line ends, of which this was answered
  pub feeds_end : (x : Option LineFault) (after : List Command) → AnswersLine x n line out after → o + length line < max_article
      → Feeds (open_at n o line) (newline ∷ []) out after (behind_line (open_at n o line) (length line) x)
  feeds_end None after h room = feeds_newline after room h
  feeds_end (Some fault) after h room = rw (h.1) (feeds_fault fault room h.0)

  -- the text ends behind the open line
  last_with : (says : Content) (added : List Command) (text : List ℕ) (given : List Command) → content line ≡ says → commands_of n says ≡ Some added
      → Opens 1 0 text given n o line → Lines text (given ++ added) (ended n)
  last_with skipped added text given e g f = let none : [] ≡ added = cc in rw (← none, append-nil) (last_skipped f e)
  last_with (command i) added text given e g f = let one : command_at n i ∷ [] ≡ added = cc in rw (← one) (last_gives f e refl)
  last_with (faulty k) added text given e g f = absurd (cc)

  pub ends_line : (after : List Command) → GivesLine n line out after → Ends (open_at n o line) out after (ended n)
  ends_line after g = record { added = g.added; is = g.is; lines = λ text given f. last_with (content line) g.added text given refl g.gives f }

  pub ends_fault : (fault : LineFault) → RefusesLine fault n line → EndsWith (open_at n o line) out out (Err fault)
  ends_fault Memory h = refl
  ends_fault (Refused m kind) h = record { added = []; is = sym (append-nil out); lines = λ text given f. rw (h.here, append-nil) (last_faults f h.says) }

-- a reader that has stopped before the text ends
pub ends_stopped : (r : Reading) (out : List Command) (fault : LineFault) → r.fault ≡ Some fault → EndsWith r out out (Err fault)
ends_stopped r out Memory e = refl
ends_stopped r out (Refused m kind) e = record {
  added = [];
  is = sym (append-nil out);
  lines = λ text given f. rw append-nil (stops (subst (λ x. fed_with x r text given) e f));
}

-- a reader without a fault is at an open line
pub opened : (r : Reading) → r.fault ≡ None → open_at r.number r.offset r.rest ≡ r
opened r none = ap (λ f. record r { fault = f }) (sym none)

module _ (n o : ℕ) (few : n ≤ o + 1) (line : List ℕ) (is : IsLine line) (short : length line ≤ max_line) (room : o + length line < max_article)
    (out after : List Command) where
  kept_empty : IsKept n o []
  kept_empty = record { line = record { one_line = tt; short = omega arith; within = omega (arith, room) }; few = few }

  kept_line : IsKept n o line
  kept_line = record { line = record { one_line = is; short = short; within = omega (arith, room) }; few = few }

  in_place : (x : Option LineFault) → AnswersLine x n line out after
      → Feeds (open_at n o []) (line ++ newline ∷ []) out after (behind_line (open_at n o line) (length line) x)
  in_place x h = feeds_both (feeds_part n o [] kept_empty out line is (omega (arith, short)) (omega (arith, room)))
      (feeds_end n o line kept_line out x after h room)

  -- a line that stands whole in the piece, of which this was answered
  pub feeds_line : (x : Option LineFault) → AnswersLine x n line out after
      → Feeds (open_at n o []) (line ++ newline ∷ []) out after (behind_line (open_at n o []) (length line) x)
  feeds_line None h = in_place None h
  feeds_line (Some fault) h = Feeds-stopped fault (open_at n o []) (stopped_at n o line fault) (stopped_at n o [] fault) (line ++ newline ∷ []) out after refl
      refl
      (in_place (Some fault) h)

-- what there is room for passes no limit
HasRoom-fits : {offset count room : ℕ} {kind : Kind} → HasRoom offset count room kind → (count + room ≤ max_line) × (offset + count + room ≤ max_article)
HasRoom-fits (line_room full within) = (omega (arith, full), omega (arith, full, within))
HasRoom-fits (article_room full short) = (omega (arith, short), omega (arith, full))

module _ (r : Reading) (kept : IsKept r.number r.offset r.rest) (none : r.fault ≡ None) where
  at : open_at r.number r.offset r.rest ≡ r
  at = opened r none

  -- the same of a reader
  pub part_over : (part : List ℕ) (room : ℕ) (kind : Kind) (new : Reading) → IsLine part → room < length part → HasRoom r.offset (length r.rest) room kind
      → new ≡ record r { fault = Some (Refused r.number kind) } → FeedsPart r part new
  part_over part room kind new is over h moved out = rw moved
      (subst (λ x. Feeds x part out out (record r { fault = Some (Refused r.number kind) })) at
      (feeds_over r.number r.offset r.rest kept out part is over h))

  pub part_kept : (part : List ℕ) (room : ℕ) (kind : Kind) (x : Option LineFault) (new : Reading) → IsLine part → length part ≤ room
      → HasRoom r.offset (length r.rest) room kind → Keeps r part x new → FeedsPart r part new
  part_kept part room kind None new is few has h out =
      let fits = HasRoom-fits has in
      rw h (subst (λ f. Feeds r part out out (record { number = r.number; offset = r.offset; rest = r.rest ++ part; fault = f })) (sym none)
      (subst (λ x. Feeds x part out out (open_at r.number r.offset (r.rest ++ part))) at
      (feeds_part r.number r.offset r.rest kept out part is (omega (arith, few, fits.0)) (omega (arith, few, fits.1)))))
  part_kept part room kind (Some fault) new is few has h out = rw (h.1)
      (subst (λ x. Feeds x part out out (record r { fault = Some Memory })) at (feeds_memory r.number r.offset r.rest kept out part))

  pub newline_full : (new : Reading) (out : List Command) → r.offset + length r.rest ≡ max_article → new
      ≡ record r { fault = Some (Refused r.number InputTooLong) }
      → Feeds r (newline ∷ []) out out new
  newline_full new out full moved = rw moved
      (subst (λ x. Feeds x (newline ∷ []) out out (record r { fault = Some (Refused r.number InputTooLong) })) at
      (feeds_full r.number r.offset r.rest kept out full))

  pub newline_ends : (new : Reading) (out after : List Command) (x : Option LineFault) → r.offset + length r.rest < max_article
      → AnswersLine x r.number r.rest out after → new ≡ behind_line r (length r.rest) x → Feeds r (newline ∷ []) out after new
  newline_ends new out after x room h moved = rw moved
      (subst (λ y. Feeds y (newline ∷ []) out after (behind_line y (length y.rest) x)) at (feeds_end r.number r.offset r.rest kept out x after h room))

  pub line_ends : (new : Reading) (line : List ℕ) (out after : List Command) (x : Option LineFault) → r.rest ≡ [] → IsLine line → length line ≤ max_line
      → r.offset + length line < max_article → AnswersLine x r.number line out after → new ≡ behind_line r (length line) x
      → Feeds r (line ++ newline ∷ []) out after new
  line_ends new line out after x empty is short room h moved =
      let e : open_at r.number r.offset [] ≡ r = ap (λ xs. open_at r.number r.offset xs) (sym empty) ∙ at in
      rw moved (subst (λ y. Feeds y (line ++ newline ∷ []) out after (behind_line y (length line) x)) e
      (feeds_line r.number r.offset kept.few line is short room out after x h))

  pub end_fault : (out after : List Command) (fault : LineFault) → AnswersLine (Some fault) r.number r.rest out after → EndsWith r out after (Err fault)
  end_fault out after fault h = subst (λ cs. EndsWith r out cs (Err fault)) (sym h.1)
      (subst (λ x. EndsWith x out out (Err fault)) at (ends_fault r.number r.offset r.rest kept out fault h.0))

  pub end_goes : (out after : List Command) (n : ℕ) → n ≡ r.number → GivesLine r.number r.rest out after → EndsWith r out after (Ok n)
  end_goes out after n is given = rw is (subst (λ x. Ends x out after (ended r.number)) at (ends_line r.number r.offset r.rest kept out after given))
