use Rattle.std.proofs.Common.{Some, ap, take, take_all, refl}
use Rattle.as4_values.specs.Texts.{IsXml, IsNoXmlFrom}
use Rattle.as4_values.proofs.XmlLemmas.{utf8_is_xml, no_xml_at_forbidden, no_xml_past_valid, xml_has_no_stop, one_stop}
use Rattle.as4_values.proofs.xml.first_not_xml.Goals as goal

-- a character that isn't one of XML
pub returns-in-Some : goal.returns-in-Some
returns-in-Some c =
    let stop : IsNoXmlFrom c.args.bytes.now c.in-Some.at =
    no_xml_at_forbidden c.args.bytes.now c.valid_len-valid.result c.in-Some.at c.valid_len-valid.ensures.bound c.valid_len-valid.ensures.front
    c.in-Some.ensures.some.0 c.in-Some.ensures.some.1 c.in-Some.ensures.some.2 in
    record {
      none = (λ none. cc, λ xml. absurd (xml_has_no_stop c.args.bytes.now c.in-Some.at xml stop));
      wrong = stop;
      only = λ at other. ap Some (one_stop c.args.bytes.now c.in-Some.at at stop other);
    }

-- no character at all
pub returns-then-valid-bytes : goal.returns-then-valid-bytes
returns-then-valid-bytes c =
    let stop : IsNoXmlFrom c.args.bytes.now c.valid_len-valid.result =
    no_xml_past_valid c.args.bytes.now c.valid_len-valid.result (c.valid_len-valid.ensures.stop c.if-valid-bytes.true)
    (utf8_is_xml (take c.valid_len-valid.result c.args.bytes.now) c.valid_len-valid.ensures.front (c.in_default.ensures.none refl)) in
    record {
      none = (λ none. cc, λ xml. absurd (xml_has_no_stop c.args.bytes.now c.valid_len-valid.result xml stop));
      wrong = stop;
      only = λ at other. ap Some (one_stop c.args.bytes.now c.valid_len-valid.result at stop other);
    }

-- all is XML
pub returns-else-valid-bytes : goal.returns-else-valid-bytes
returns-else-valid-bytes c =
    let whole = take_all c.valid_len-valid.result c.args.bytes.now c.if-valid-bytes.false in
    let front : IsXml (take c.valid_len-valid.result c.args.bytes.now) =
    utf8_is_xml (take c.valid_len-valid.result c.args.bytes.now) c.valid_len-valid.ensures.front (c.in_default.ensures.none refl) in
    let xml : IsXml c.args.bytes.now = rw whole at front in
    record {
      none = (λ none. xml, λ xml. refl);
      wrong = tt;
      only = λ at other. absurd (xml_has_no_stop c.args.bytes.now at xml other);
    }
