use Rattle.std.proofs.Common.{◌≡◌, ◌+◌, get_or, ap, ◌∙◌, arith}
use Rattle.march.specs.March.{new_pixel}
use Rattle.words.specs.Words.{image_word, number_word}
use Rattle.words.specs.Writing.{with_word}
use Rattle.words.proofs.Written.{put_made}
use Rattle.plate_log.proofs.Sanity.{sane_at, sane_more}
use Rattle.plate_log.proofs.Bytes.{put_more, put_all}
use Rattle.plate.proofs.image.put_image.Goals as goal

pub word_of-requires : goal.word_of-requires
word_of-requires c =
    let v = c.args.view in
    let ps = c.args.pixels.now in
    sane_more v.far 4095 (get_or ps c.loop-k.k new_pixel) v.far_in_range (sane_at v.far ps c.loop-k.k c.requires.sane c.loop-k-test.true)

pub loop-k-preserved : goal.loop-k-preserved
loop-k-preserved c =
    let k = 2 + c.loop-k.k in
    put_more c.args.view c.args.pixels.now c.loop-k.out c.put-2.new.out c.put-in-loop-k.new.out c.loop-k.k c.loop-k-test.true c.loop-k.invariant
    (put_made k c.word_of.result c.loop-k.out c.put-in-loop-k.new.out c.put-in-loop-k.result c.unwrap-in-loop-k.result c.put-in-loop-k.ensures c.unwrap-in-loop-k.ensures
    ∙ ap (λ w. with_word k w c.loop-k.out) c.word_of.ensures)

pub returns : goal.returns
returns c =
    let v = c.args.view in
    let start : c.word-start.result ≡ image_word v.width v.height = omega (arith, c.word-start.ensures, v.width_in_range, v.height_in_range) in
    let far : c.word.result ≡ number_word v.far = omega (arith, c.word.ensures, v.far_in_range) in
    put_all v c.args.pixels.now c.loop-k.out c.put.new.out c.put-2.new.out c.args.out.now c.loop-k.k
    c.loop-k-test.false c.loop-k.auto.k-end
    (put_made 0 c.word-start.result c.args.out.now c.put.new.out c.put.result c.unwrap.result c.put.ensures c.unwrap.ensures ∙ ap (λ w. with_word 0 w c.args.out.now) start)
    (put_made 1 c.word.result c.put.new.out c.put-2.new.out c.put-2.result c.unwrap-2.result c.put-2.ensures c.unwrap-2.ensures ∙ ap (λ w. with_word 1 w c.put.new.out) far)
    c.loop-k.invariant
