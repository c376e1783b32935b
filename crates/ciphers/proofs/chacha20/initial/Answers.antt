use Rattle.std.proofs.Common.{◌+◌, ◌∙◌}
use Rattle.ciphers.proofs.Lanes.{initial_words}
use Rattle.ciphers.proofs.chacha20.initial.Goals as goal

pub returns : goal.returns
returns g c n h =
    initial_words c.args.key.now (c.args.counter + n) c.args.nonce.now _ _ _ _ _ _ _ _ _ _ _ _ _ _ _ _
    (c.same.ensures n h) (c.same-2.ensures n h) (c.same-3.ensures n h) (c.same-4.ensures n h)
    (c.same-5.ensures n h ∙ c.word_at.ensures) (c.same-6.ensures n h ∙ c.word_at-2.ensures)
    (c.same-7.ensures n h ∙ c.word_at-3.ensures) (c.same-8.ensures n h ∙ c.word_at-4.ensures)
    (c.same-9.ensures n h ∙ c.word_at-5.ensures) (c.same-10.ensures n h ∙ c.word_at-6.ensures)
    (c.same-11.ensures n h ∙ c.word_at-7.ensures) (c.same-12.ensures n h ∙ c.word_at-8.ensures)
    (c.counted.ensures n h) (c.same-13.ensures n h ∙ c.word_at-9.ensures)
    (c.same-14.ensures n h ∙ c.word_at-10.ensures) (c.same-15.ensures n h ∙ c.word_at-11.ensures)
