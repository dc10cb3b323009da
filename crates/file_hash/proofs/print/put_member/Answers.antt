-- The five pieces of a member.
use Rattle.std.proofs.Common.{◌≡◌, ◌++◌, ◌∙◌, ap, subst, codes}
use Rattle.std.specs.Str.{IsUtf8}
use Rattle.file_hash.specs.Listing.{escaped_text, text_at}
use Rattle.file_hash.specs.Reading.{IsSound}
use Rattle.file_hash.proofs.TextLemmas.{ok_then, put_five}
use Rattle.file_hash.proofs.print.put_member.Goals as goal

pub returns : goal.returns
returns c =
    let m = c.args.member.now in
    let text : c.put_escaped.new.out ≡ c.put-3.new.self ++ escaped_text (text_at m) = c.in_ok-put_escaped.ensures.exact ∙ ap (λ t. c.put-3.new.self ++ escaped_text t) c.text.ensures.by_parts in
    let digits : c.put-2.new.self ≡ c.put.new.self ++ m.name.digits = c.in_ok-put-2.ensures.ok ∙ ap (λ d. c.put.new.self ++ d) c.digits.ensures.same in
    let sound : IsSound m = record { rel = record { normal = c.parts.ensures.normal; short = c.parts.ensures.short }; utf8 = subst IsUtf8 c.text.ensures.by_parts c.in_ok-put_escaped.ensures.utf8 } in
    record { exact = ok_then c.put-4.result (λ last. put_five c.args.out.now c.put.new.self c.put-2.new.self c.put-3.new.self c.put_escaped.new.out c.put-4.new.self (codes "{\"md5\": \"") m.name.digits (codes "\", \"relpath\": \"") (escaped_text (text_at m)) (codes "\"}") c.in_ok-put.ensures.ok digits c.in_ok-put-3.ensures.ok text last) c.put-4.ensures.ok; sound = ok_then c.put-4.result (λ last. sound) c.put-4.ensures.ok }
