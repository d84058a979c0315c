use Rattle.std.proofs.Common.{◌≡◌, ap, refl, sym, ◌∙◌, ◌∷◌, ◌++◌, not, if◌then◌else◌}
use Rattle.dk_write.specs.declared.path.Frame.TheVariants.{Close}
use Rattle.dk_write.specs.Paths.{frame_text, frames_text}
use Rattle.dk_write.proofs.GainedLaws.{gained_part, on_err_front}
use Rattle.dk_write.proofs.NodeLaws.{is_word-written}
use Rattle.dk_write.proofs.FrameTexts.{argument_parts, abstracted_parts, produced_parts}
use Rattle.dk_write.proofs.tree.write_frame.Goals as goal

pub returns-in_err-write-in-Argument-clause-err : goal.returns-in_err-write-in-Argument-clause-err
returns-in_err-write-in-Argument-clause-err g c =
    let m = c.args.source.now in let n = c.args.before in let fs = c.args.frames.now.frames in
    on_err_front _ _ _ _ _ _ _
    (ap (λ f. frame_text m n f ++ frames_text m n fs) c.in-Argument.is
    ∙ argument_parts m n fs c.in-Argument.place c.in-Argument.closes _ _ _ c.between.ensures
    (ap not (is_word-written m n c.in-Argument.place.id _ _ c.written_node-node.ensures c.is_word-opens.ensures)) refl)
    c.in_err-write-in-Argument.ensures.err

pub returns-then-opens-clause-ok : goal.returns-then-opens-clause-ok
returns-then-opens-clause-ok g c =
    let m = c.args.source.now in let n = c.args.before in let fs = c.args.frames.now.frames in
    let closing : (if not c.is_word-opens.result then Close ∷ fs else fs) ≡ c.push.new.self.frames =
    ap (λ b. if not b then Close ∷ fs else fs) c.if-opens.true ∙ sym c.push.ensures.frames in
    gained_part _ _ _ _ _ _ _
    (ap (λ f. frame_text m n f ++ frames_text m n fs) c.in-Argument.is
    ∙ argument_parts m n fs c.in-Argument.place c.in-Argument.closes _ _ _ c.between.ensures
    (ap not (is_word-written m n c.in-Argument.place.id _ _ c.written_node-node.ensures c.is_word-opens.ensures)) closing)
    c.in_ok-write-in-Argument.ensures.ok

pub returns-in_err-write-in-Abstracted-clause-err : goal.returns-in_err-write-in-Abstracted-clause-err
returns-in_err-write-in-Abstracted-clause-err g c =
    let m = c.args.source.now in let n = c.args.before in let fs = c.args.frames.now.frames in
    on_err_front _ _ _ _ _ _ _
    (ap (λ f. frame_text m n f ++ frames_text m n fs) c.in-Abstracted.is
    ∙ abstracted_parts m n fs c.in-Abstracted.place c.in-Abstracted.closes _ c.to_body.ensures)
    c.in_err-write-in-Abstracted.ensures.err

pub returns-in_err-write-in-Produced-clause-err : goal.returns-in_err-write-in-Produced-clause-err
returns-in_err-write-in-Produced-clause-err g c =
    let m = c.args.source.now in let n = c.args.before in let fs = c.args.frames.now.frames in
    on_err_front _ _ _ _ _ _ _
    (ap (λ f. frame_text m n f ++ frames_text m n fs) c.in-Produced.is ∙ produced_parts m n fs c.in-Produced.place c.in-Produced.closes _ c.to_target.ensures)
    c.in_err-write-in-Produced.ensures.err
