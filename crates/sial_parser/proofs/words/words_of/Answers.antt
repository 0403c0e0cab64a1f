use Rattle.std.proofs.Common.{◌++◌, ◌∷◌, [], map, take, ◌∙◌, sym, ap}
use Rattle.sial_parser.specs.Words.{word_of}
use Rattle.sial_parser.proofs.AnswerLemmas.{taken_more}
use Rattle.sial_parser.proofs.words.words_of.Goals as goal

-- one word more
pub loop-place-preserved : goal.loop-place-preserved
loop-place-preserved c =
    c.in_ok-push.ensures.items ∙ ap (λ v. v ++ c.in_ok-word.word ∷ []) c.loop-place.invariant ∙ ap (λ w. map (word_of c.args.text.now) (take c.loop-place.place c.args.tokens.now) ++ w ∷ []) c.in_ok-word.ensures
    ∙ sym (taken_more (word_of c.args.text.now) c.args.tokens.now c.loop-place.place c.token.result c.token.ensures)
