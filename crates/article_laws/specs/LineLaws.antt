-- Reading a text in parts: what its open line goes on to read, the text goes on to read.
use Rattle.std.specs.Prelude.{ℕ, ◌≢◌, List, [], ◌∷◌, ◌++◌}
use Rattle.std.proofs.Common.{ap, ◌∙◌, append_assoc}
use Rattle.common.specs.declared.faults.Kind.{Kind}
use Rattle.article_spec.specs.declared.commands.Command.{Command}
use Rattle.article_spec.specs.Contents.{Content}
use Rattle.article_spec.specs.Lines.{newline, EndedLine, IsLine, OpenLine, Opens, open_line, skips, gives, Stops, faults, long_line, long_article, skips_on, gives_on}

-- a text that begins with an ended line still does so with more behind it
EndedLine-append : {o : ℕ} {text line rest : List ℕ} {says : Content} → EndedLine o text line rest says → (more : List ℕ)
    → EndedLine o (text ++ more) line (rest ++ more) says
EndedLine-append {line = line} {rest = rest} h more =
    record {
      is = ap (λ xs. xs ++ more) h.is ∙ append_assoc line (newline ∷ rest) more;
      one_line = h.one_line;
      short = h.short;
      within = h.within;
      means =
          h.means;
    }

-- the open line and what follows it open a further line
pub opens_then : {n o m p q r : ℕ} {text line rest : List ℕ} {commands others : List Command} → Opens n o text commands m p line → (more : List ℕ)
    → Opens m p (line ++ more) others q r rest → Opens n o (text ++ more) (commands ++ others) q r rest
opens_then (open_line h) more k = k
opens_then (skips h on) more k = skips (EndedLine-append h more) (opens_then on more k)
opens_then (gives h on) more k = gives (EndedLine-append h more) (opens_then on more k)

-- the open line and what follows it stop
pub stops_then : {n o m p q : ℕ} {text line : List ℕ} {commands others : List Command} {k : Kind} → Opens n o text commands m p line → (more : List ℕ)
    → Stops m p (line ++ more) others q k → Stops n o (text ++ more) (commands ++ others) q k
stops_then (open_line h) more k = k
stops_then (skips h on) more k = skips_on (EndedLine-append h more) (stops_then on more k)
stops_then (gives h on) more k = gives_on (EndedLine-append h more) (stops_then on more k)

-- a text that stops does so whatever follows
pub Stops-append : {n o m : ℕ} {text : List ℕ} {commands : List Command} {k : Kind} → Stops n o text commands m k → (more : List ℕ)
    → Stops n o (text ++ more) commands m k
Stops-append (faults h) more = faults (EndedLine-append h more)
Stops-append (long_line h) more = long_line
    (record {
      line = h.line;
      byte = h.byte;
      more = h.more ++ more;
      is = ap (λ xs. xs ++ more) h.is ∙ append_assoc h.line (h.byte ∷ h.more) more;
      one_line =
          h.one_line;
      other = h.other;
      full = h.full;
      within = h.within;
    })
Stops-append (long_article h) more = long_article
    (record {
      line = h.line;
      byte = h.byte;
      more = h.more ++ more;
      is = ap (λ xs. xs ++ more) h.is ∙ append_assoc h.line (h.byte ∷ h.more) more;
      one_line =
          h.one_line;
      short = h.short;
      first = h.first;
      full = h.full;
    })
Stops-append (skips_on h on) more = skips_on (EndedLine-append h more) (Stops-append on more)
Stops-append (gives_on h on) more = gives_on (EndedLine-append h more) (Stops-append on more)

-- the open line is one line within the limits
pub OpenLine-of : {n o m p : ℕ} {text line : List ℕ} {commands : List Command} → Opens n o text commands m p line → OpenLine p line
OpenLine-of (open_line h) = h
OpenLine-of (skips h on) = OpenLine-of on
OpenLine-of (gives h on) = OpenLine-of on

-- a line with one more byte that is no newline is a line
pub IsLine-push : (b : ℕ) → b ≢ newline → (line : List ℕ) → IsLine line → IsLine (line ++ b ∷ [])
IsLine-push b other [] h = (other, tt)
IsLine-push b other (c ∷ line) h = (h.0, IsLine-push b other line h.1)
