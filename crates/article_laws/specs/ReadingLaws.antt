-- Why every text has exactly one reading: a scan of its bytes finds it, and finds no other.
use Rattle.std.specs.Prelude.{ℕ, ◌≡◌, ◌≢◌, ◌+◌, ◌<◌, ◌≤◌, ◌==◌, ◌&&◌, not, Bool, true, false, cond, List, [], ◌∷◌, ◌++◌, length}
use Rattle.std.proofs.Common.{refl, sym, ap, subst, ◌∙◌, append_assoc, length-append, arith}
use Rattle.std.proofs.lemmas.List.{append-nil}
use Rattle.std.proofs.lemmas.Grind.{common_steps}
use Rattle.std.proofs.lemmas.Bool.{eqb-true}
use Rattle.common.specs.declared.faults.Kind.{Kind}
use Rattle.common.specs.declared.faults.Kind.TheVariants as kind
use Rattle.article_spec.specs.declared.commands.Command.{Command}
use Rattle.article_spec.specs.OneReading.{OneReading, OpensOrStops, OpensFront}
use Rattle.article_laws.specs.LineLaws.{IsLine-push, opens_then, stops_then, OpenLine-of}
use Rattle.article_spec.specs.Contents.{Content, skipped, command, faulty, content}
use Rattle.article_spec.specs.Lines.{newline, max_line, max_article, command_at, IsLine, EndedLine, OpenLine, LongLine, LongArticle, Opens, open_line, skips, gives, Stops, faults, long_line, long_article, skips_on, gives_on, End, ended, refused, Lines, last_skipped, last_gives, last_faults, stops}

-- how a scan of the text ends: at an open line with its number, offset and text, or at a fault
data Scan : Type 0 where
  at_line : List Command → ℕ → ℕ → List ℕ → Scan
  at_fault : List Command → ℕ → Kind → Scan

abbrev before : Command → Scan → Scan
before c (at_line commands n o line) = at_line (c ∷ commands) n o line
before c (at_fault commands n k) = at_fault (c ∷ commands) n k

abbrev after_line : ℕ → Content → Scan → Scan
after_line n skipped s = s
after_line n (command i) s = before (command_at n i) s
after_line n (faulty k) s = at_fault [] n k

-- the scan, byte by byte, behind the bytes of an open line
abbrev scan : List ℕ → ℕ → ℕ → List ℕ → Scan
scan [] n o line = at_line [] n o line
scan (b ∷ text) n o line =
    cond (not (b == newline) && (length line == max_line)) (at_fault [] n kind.LineTooLong)
    (cond (o + length line == max_article) (at_fault [] n kind.InputTooLong)
    (cond (b == newline) (after_line n (content line) (scan text (n + 1) (o + length line + 1) []))
    (scan text n o (line ++ b ∷ []))))

choose : {A : Type 0} (p q r : Bool) (a b c d x : A) → (p ≡ true → a ≡ x) → (p ≡ false → q ≡ true → b ≡ x) → (p ≡ false → q ≡ false → r ≡ true → c ≡ x)
    → (p ≡ false → q ≡ false → r ≡ false → d ≡ x)
    → cond p a (cond q b (cond r c d)) ≡ x
choose true q r a b c d x f g h k = f refl
choose false true r a b c d x f g h k = g refl refl
choose false false true a b c d x f g h k = h refl refl refl
choose false false false a b c d x f g h k = k refl refl refl

-- a front without a newline enters the open line
scan-line : (front text : List ℕ) (n o : ℕ) (line : List ℕ) → IsLine front → length line + length front ≤ max_line
    → o + length line + length front ≤ max_article → scan (front ++ text) n o line ≡ scan text n o (line ++ front)
scan-line [] text n o line h s w = rw append-nil refl
scan-line (b ∷ front) text n o line h s w =
    choose (not (b == newline) && (length line == max_line)) (o + length line == max_article) (b == newline) _ _ _ _ _
    (λ p. absurd (grind (arith, common_steps))) (λ p q. absurd (grind (arith, common_steps))) (λ p q r. absurd (h.0 (eqb-true b newline r)))
    (λ p q r. scan-line front text n o (line ++ b ∷ []) h.1 (omega (arith, length-append line (b ∷ []))) (omega (arith, length-append line (b ∷ [])))
    ∙ ap (scan text n o) (append_assoc line (b ∷ []) front))

scan-newline_byte : (b : ℕ) (more : List ℕ) (n o : ℕ) (line : List ℕ) → b ≡ newline → o + length line < max_article
    → scan (b ∷ more) n o line ≡ after_line n (content line) (scan more (n + 1) (o + length line + 1) [])
scan-newline_byte b more n o line is w =
    choose (not (b == newline) && (length line == max_line)) (o + length line == max_article) (b == newline) _ _ _ _ _
    (λ p. absurd (grind (arith, common_steps))) (λ p q. absurd (grind (arith, common_steps))) (λ p q r. refl) (λ p q r. absurd (grind (arith, common_steps)))

scan-long : (b : ℕ) (more : List ℕ) (n o : ℕ) (line : List ℕ) → b ≢ newline → length line ≡ max_line → scan (b ∷ more) n o line ≡ at_fault [] n kind.LineTooLong
scan-long b more n o line other full =
    choose (not (b == newline) && (length line == max_line)) (o + length line == max_article) (b == newline) _ _ _ _ _
    (λ p. refl) (λ p q. absurd (grind (arith, common_steps))) (λ p q r. absurd (other (eqb-true b newline r))) (λ p q r. absurd (grind (arith, common_steps)))

scan-full : (b : ℕ) (more : List ℕ) (n o : ℕ) (line : List ℕ) → (length line ≡ max_line → b ≡ newline) → o + length line ≡ max_article
    → scan (b ∷ more) n o line ≡ at_fault [] n kind.InputTooLong
scan-full b more n o line first full =
    choose (not (b == newline) && (length line == max_line)) (o + length line == max_article) (b == newline) _ _ _ _ _
    (λ p. absurd (grind (arith, common_steps, first))) (λ p q. refl) (λ p q r. absurd (grind (arith, common_steps)))
    (λ p q r. absurd (grind (arith, common_steps)))

-- an ended line is scanned first
scan-ended : {o : ℕ} {text line more : List ℕ} {says : Content} → EndedLine o text line more says → (n : ℕ)
    → scan text n o [] ≡ after_line n says (scan more (n + 1) (o + length line + 1) [])
scan-ended {o = o} {line = line} {more = more} h n =
    ap (λ t. scan t n o []) h.is ∙ scan-line line (newline ∷ more) n o [] h.one_line (omega (arith, h.short)) (omega (arith, h.within))
    ∙ scan-newline_byte newline more n o line refl h.within ∙ ap (λ c. after_line n c (scan more (n + 1) (o + length line + 1) [])) h.means

scan-opens : {n o m p : ℕ} {text line : List ℕ} {commands : List Command} → Opens n o text commands m p line → scan text n o [] ≡ at_line commands m p line
scan-opens {n = n} {o = o} (open_line {line = line} h) =
    ap (λ t. scan t n o []) (sym (append-nil line)) ∙ scan-line line [] n o [] h.one_line (omega (arith, h.short)) (omega (arith, h.within))
scan-opens {n = n} (skips h on) = scan-ended h n ∙ scan-opens on
scan-opens {n = n} (gives {i = i} h on) = scan-ended h n ∙ ap (before (command_at n i)) (scan-opens on)

scan-stops : {n o m : ℕ} {text : List ℕ} {commands : List Command} {k : Kind} → Stops n o text commands m k → scan text n o [] ≡ at_fault commands m k
scan-stops {n = n} (faults h) = scan-ended h n
scan-stops {n = n} {o = o} (long_line h) = ap (λ t. scan t n o []) h.is ∙ scan-line h.line (h.byte ∷ h.more) n o [] h.one_line (omega (arith, h.full))
    (omega (arith, h.full, h.within)) ∙ scan-long h.byte h.more n o h.line h.other h.full
scan-stops {n = n} {o = o} (long_article h) = ap (λ t. scan t n o []) h.is ∙ scan-line h.line (h.byte ∷ h.more) n o [] h.one_line (omega (arith, h.short))
    (omega (arith, h.full)) ∙ scan-full h.byte h.more n o h.line h.first h.full
scan-stops {n = n} (skips_on h on) = scan-ended h n ∙ scan-stops on
scan-stops {n = n} (gives_on {i = i} h on) = scan-ended h n ∙ ap (before (command_at n i)) (scan-stops on)

-- the commands and the end that a scan makes
abbrev Read : Type 0
Read = List Command × End

abbrev last_line : List Command → ℕ → Content → Read
last_line commands n skipped = (commands, ended n)
last_line commands n (command i) = (commands ++ command_at n i ∷ [], ended n)
last_line commands n (faulty k) = (commands, refused n k)

abbrev reading : Scan → Read
reading (at_line commands n o line) = last_line commands n (content line)
reading (at_fault commands n k) = (commands, refused n k)

reading-lines : {text : List ℕ} {commands : List Command} {e : End} → Lines text commands e → reading (scan text 1 0 []) ≡ (commands, e)
reading-lines (last_skipped {commands = commands} {n = n} h says) = ap reading (scan-opens h) ∙ ap (last_line commands n) says
reading-lines (last_gives {commands = commands} {n = n} h says all) =
    ap reading (scan-opens h) ∙ ap (last_line commands n) says ∙ ap (λ (cs : List Command). (cs, ended n)) (sym all)
reading-lines (last_faults {commands = commands} {n = n} h says) = ap reading (scan-opens h) ∙ ap (last_line commands n) says
reading-lines (stops h) = ap reading (scan-stops h)

-- from line n at offset o on, a text opens a line or stops
data GoesOn (n o : ℕ) (text : List ℕ) : Type 0 where
  to_line : {m p : ℕ} {commands : List Command} {rest : List ℕ} → Opens n o text commands m p rest → GoesOn n o text
  to_fault : {m : ℕ} {commands : List Command} {k : Kind} → Stops n o text commands m k → GoesOn n o text

after_ended : {n o : ℕ} {text line more : List ℕ} (says : Content) → EndedLine o text line more says → GoesOn (n + 1) (o + length line + 1) more
    → GoesOn n o text
after_ended skipped h (to_line on) = to_line (skips h on)
after_ended skipped h (to_fault on) = to_fault (skips_on h on)
after_ended (command i) h (to_line on) = to_line (gives h on)
after_ended (command i) h (to_fault on) = to_fault (gives_on h on)
after_ended (faulty k) h on = to_fault (faults h)

by_tests : {P : Type 0} (p q r : Bool) → (p ≡ true → P) → (p ≡ false → q ≡ true → P) → (p ≡ false → q ≡ false → r ≡ true → P)
    → (p ≡ false → q ≡ false → r ≡ false → P) → P
by_tests true q r f g h k = f refl
by_tests false true r f g h k = g refl refl
by_tests false false true f g h k = h refl refl refl
by_tests false false false f g h k = k refl refl refl

-- what the tests say of a byte behind an open line
past_line : (b : ℕ) (o : ℕ) (line text : List ℕ) → OpenLine o line → (not (b == newline) && (length line == max_line)) ≡ true → LongLine o (line ++ b ∷ text)
past_line b o line text h p =
    let full : length line ≡ max_line = grind (arith, common_steps) in
    record {
      line = line;
      byte = b;
      more = text;
      is = refl;
      one_line = h.one_line;
      other = grind (arith, common_steps);
      full = full;
      within =
          omega (arith, h.within, full);
    }

past_article : (b : ℕ) (o : ℕ) (line text : List ℕ) → OpenLine o line → (not (b == newline) && (length line == max_line)) ≡ false
    → (o + length line == max_article) ≡ true → LongArticle o (line ++ b ∷ text)
past_article b o line text h p q = record {
  line = line;
  byte = b;
  more = text;
  is = refl;
  one_line = h.one_line;
  short = h.short;
  first = λ full. grind (arith, common_steps);
  full =
      eqb-true (o + length line) max_article q;
}

with_byte : (b : ℕ) (o : ℕ) (line : List ℕ) → OpenLine o line → (not (b == newline) && (length line == max_line)) ≡ false
    → (o + length line == max_article) ≡ false → (b == newline) ≡ false → OpenLine o (line ++ b ∷ [])
with_byte b o line h p q r = record {
  one_line = IsLine-push b (λ e. grind (arith, common_steps)) line h.one_line;
  short = grind (arith, common_steps, h.short);
  within =
      grind (arith, common_steps, h.within);
}

ended_by : (b : ℕ) (o : ℕ) (line text : List ℕ) → OpenLine o line → (o + length line == max_article) ≡ false → (b == newline) ≡ true
    → EndedLine o (line ++ b ∷ text) line text (content line)
ended_by b o line text h q r = record {
  is = ap (λ x. line ++ x ∷ text) (eqb-true b newline r);
  one_line = h.one_line;
  short = h.short;
  within = grind (arith, common_steps, h.within);
  means =
      refl;
}

goes_on : (text : List ℕ) (n o : ℕ) (line : List ℕ) → OpenLine o line → GoesOn n o (line ++ text)
goes_on [] n o line h = subst (GoesOn n o) (sym (append-nil line)) (to_line (open_line h))
goes_on (b ∷ text) n o line h =
    by_tests (not (b == newline) && (length line == max_line)) (o + length line == max_article) (b == newline)
    (λ p. to_fault (long_line (past_line b o line text h p)))
    (λ p q. to_fault (long_article (past_article b o line text h p q)))
    (λ p q r. let e = ended_by b o line text h q r in
    after_ended (content line) e
    (goes_on text (n + 1) (o + length line + 1) [] (record { one_line = tt; short = omega arith; within = omega (arith, e.within) })))
    (λ p q r. subst (GoesOn n o) (append_assoc line (b ∷ []) text) (goes_on text n o (line ++ b ∷ []) (with_byte b o line h p q r)))

-- a reading as it was found
record HasReading (text : List ℕ) : Type 0 where
  commands : List Command
  end : End
  read : Lines text commands end

by_last : {text line : List ℕ} {commands : List Command} {n o : ℕ} (says : Content) → Opens 1 0 text commands n o line → content line ≡ says → HasReading text
by_last {commands = commands} {n = n} skipped h e = record { commands = commands; end = ended n; read = last_skipped h e }
by_last {commands = commands} {n = n} (command i) h e = record { commands = commands ++ command_at n i ∷ []; end = ended n; read = last_gives h e refl }
by_last {commands = commands} {n = n} (faulty k) h e = record { commands = commands; end = refused n k; read = last_faults h e }

found : {text : List ℕ} → GoesOn 1 0 text → HasReading text
found (to_line {rest = rest} h) = by_last (content rest) h refl
found (to_fault {m = m} {commands = commands} {k = k} h) = record { commands = commands; end = refused m k; read = stops h }

-- every text has one reading
pub one_reading : OneReading
one_reading text =
    let r = found (goes_on text 1 0 [] (record { one_line = tt; short = omega arith; within = omega arith })) in
    record {
      commands = r.commands;
      end = r.end;
      read = r.read;
      only = λ others other h. let same : ◌≡◌ {A = Read} (others, other) (r.commands, r.end) = sym (reading-lines h) ∙ reading-lines r.read in
          (ap (λ (x : Read). x.0) same, ap (λ (x : Read). x.1) same);
    }

-- whether a scan ends at an open line
is_at_line : Scan → Type 0
is_at_line (at_line commands n o line) = Unit {0}
is_at_line (at_fault commands n k) = ⊥

-- the scan ends in one way
pub opens_or_stops : OpensOrStops
unfolding is_at_line
opens_or_stops text commands others n o m line k h j = subst is_at_line (sym (scan-opens h) ∙ scan-stops j) tt

-- a reading that goes on after these commands
record ReadsAfter (text : List ℕ) (commands : List Command) : Type 0 where
  rest : List Command
  end : End
  read : Lines text (commands ++ rest) end

last_after : {text line : List ℕ} {n o : ℕ} (commands others : List Command) (says : Content) → Opens 1 0 text (commands ++ others) n o line
    → content line ≡ says → ReadsAfter text commands
last_after {n = n} commands others skipped h e = record { rest = others; end = ended n; read = last_skipped h e }
last_after {n = n} commands others (command i) h e =
    record { rest = others ++ command_at n i ∷ []; end = ended n; read = last_gives h e (sym (append_assoc commands others (command_at n i ∷ []))) }
last_after {n = n} commands others (faulty k) h e = record { rest = others; end = refused n k; read = last_faults h e }

found_after : {text line : List ℕ} {n o : ℕ} {commands : List Command} → Opens 1 0 text commands n o line → (more : List ℕ) → GoesOn n o (line ++ more)
    → ReadsAfter (text ++ more) commands
found_after {commands = commands} h more (to_line {commands = others} {rest = rest} on) = last_after commands others (content rest) (opens_then h more on) refl
found_after h more (to_fault {m = m} {commands = others} {k = k} on) = record { rest = others; end = refused m k; read = stops (stops_then h more on) }

-- the open line and what follows it only add commands
pub opens_front : OpensFront
opens_front text more commands all n o line e h read =
    let r = found_after h more (goes_on more n o line (OpenLine-of h)) in
    let same : ◌≡◌ {A = Read} (all, e) (commands ++ r.rest, r.end) = sym (reading-lines read) ∙ reading-lines r.read in
    record { rest = r.rest; is = ap (λ (x : Read). x.0) same }
