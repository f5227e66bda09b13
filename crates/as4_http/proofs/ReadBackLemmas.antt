-- Lemmas: what is written is read back.
use Rattle.std.proofs.Common.{◌≡◌, IsTrue, ℕ, ◌^◌, ◌<◌, ◌≤◌, Bool, true, false, ◌/◌, ◌&&◌, ◌||◌, Option, None, Some, IfSome, List, [], ◌∷◌, ◌++◌, length, take, drop, reverse, map, All, refl, sym, ◌∙◌, ap, arith, append_assoc, append-nil, length-append}
use Rattle.std.specs.Prelude.{codes, decimal, not, ◌==◌, if◌then◌else◌}
use Rattle.std.specs.Str.{bytes_eq}
use Rattle.std.specs.Char.{is_ascii_digit}
use Rattle.std.specs.List.{list_all, flat_map}
use Rattle.std.specs.Option.{option_to_list}
use Rattle.std.proofs.lemmas.Bool.Decides.{nat_tests}
use Rattle.std.proofs.lemmas.List.Elements.{All-nil, All-cons, All-head, All-take, All-drop, All-weaker}
use Rattle.std.proofs.lemmas.List.Sums.{AllPass-from_list_all}
use Rattle.std.proofs.lemmas.Fmt.{decimal_is_IsNumeral, length-decimal-le}
use Rattle.std.proofs.lemmas.Str.{IsUtf8-from_ascii}
use Rattle.std.proofs.lemmas.Str.Parse.{tells_digits}
use Rattle.std.proofs.lemmas.Str.Ascii.{IsAscii-from_all}
use Rattle.std.specs.Str.Parse.{AllDigits}
use Rattle.itoa.proofs.Decimal.{length_one, length_pair}
use Rattle.httparse.specs.Grammar.{AllPass, crlf, Field, IsField, print_field, print_section, IsToken, RequestHead, IsRequestHead, print_request, ResponseHead, IsResponseHead, print_response, is_token_byte, is_uri_byte, is_value_byte, is_ows, skip_ows, trim_ows}
use Rattle.httparse.specs.Spans.{name_and_value}
use Rattle.httparse.proofs.TrimLemmas.{trim_ows_space, skip_ows_no, AllPass-reverse}
use Rattle.as4_values.specs.Address.{has_address_form, is_behind_scheme}
use Rattle.as4_values.specs.Word.{is_graphic}
use Rattle.as4_http.specs.Connection.{closes, names_close}
use Rattle.as4_http.specs.Fields.{is_name, values_in}
use Rattle.as4_http.specs.Framing.{FramesAs}
use Rattle.as4_http.specs.Methods.{method_text}
use Rattle.as4_http.specs.ReadBack.{IsMedia, IsWithinLimits, request_to, response_with}
use Rattle.as4_http.specs.Requests.{BeginsKept, start_of}
use Rattle.as4_http.specs.RequestStarts.{SaysRequest}
use Rattle.as4_http.specs.Responses.{BeginsResponse, start_of as responded}
use Rattle.as4_http.specs.ResponseStarts.{SaysResponse}
use Rattle.as4_http.specs.Written.{line, fields_and_body, behind_scheme, host, slash_or, target, asks, method, request_line, request_text, is_status, reason, status_line, response_text}
use Rattle.as4_http.specs.declared.framing.Framing.{Framing}
use Rattle.as4_http.specs.declared.framing.Framing.TheVariants.{Empty, Counted, ToEnd}
use Rattle.as4_http.specs.declared.limits.TheConstants.{MAX_BODY}
use Rattle.as4_http.specs.declared.message.Method.TheVariants.{Get, Post}

abbrev field : List ℕ → List ℕ → Field
field name value = record { name = name; raw = 32 ∷ value; end = crlf }

abbrev media_fields : Option (List ℕ) → List Field
media_fields None = []
media_fields (Some media) = field (codes "Content-Type") media ∷ []

-- the fields that each message has
abbrev fields_of : Option (List ℕ) → List ℕ → ℕ → List Field
fields_of media connection n = media_fields media ++ (field (codes "Content-Length") (decimal n) ∷ field (codes "Connection") connection ∷ [])

three_behind : (b c e body : List ℕ) → b ++ c ++ e ++ body ≡ (b ++ (c ++ [])) ++ e ++ body
three_behind b c e body = simp (append_assoc, append-nil)

four_behind : (a b c e body : List ℕ) → a ++ b ++ c ++ e ++ body ≡ (a ++ (b ++ (c ++ []))) ++ e ++ body
four_behind a b c e body = simp (append_assoc, append-nil)

fields_print : (media : Option (List ℕ)) (connection body : List ℕ) → fields_and_body media connection body ≡ print_section (fields_of media connection (length body)) crlf ++ body
unfolding fields_and_body
fields_print None connection body = three_behind (line (codes "Content-Length: " ++ decimal (length body))) (line (codes "Connection: " ++ connection)) (line []) body
fields_print (Some media) connection body = four_behind (line (codes "Content-Type: " ++ media)) (line (codes "Content-Length: " ++ decimal (length body))) (line (codes "Connection: " ++ connection)) (line []) body

is_field : (name value : List ℕ) → 0 < length name → list_all is_token_byte name ≡ true → AllPass is_value_byte value → IsField (field name value)
is_field name value some token bytes = record {
  name = (some, AllPass-from_list_all is_token_byte name token);
  raw = All-cons (λ b. IsTrue (is_value_byte b)) 32 value refl bytes;
}

all_digits : (ds : List ℕ) → AllDigits 10 ds → AllPass is_ascii_digit ds
all_digits [] digits = All-nil (λ b. IsTrue (is_ascii_digit b))
all_digits (d ∷ ds) digits =
    let first = tells_digits.parts d ds digits in
    All-cons (λ b. IsTrue (is_ascii_digit b)) d ds (grind (arith, nat_tests)) (all_digits ds digits.1)

decimal_digits : (n : ℕ) → n < 2 ^ 64 → AllPass is_ascii_digit (decimal n)
decimal_digits n small = all_digits (decimal n) (decimal_is_IsNumeral n small).0.1

digits_stay : (ds : List ℕ) → AllPass is_ascii_digit ds → skip_ows ds ≡ ds
digits_stay [] digits = refl
digits_stay (d ∷ ds) digits =
    let first = All-head (λ b. IsTrue (is_ascii_digit b)) d ds digits in
    let other : false ≡ is_ows d = grind (arith, nat_tests) in
    skip_ows_no refl other

-- a number is no white space
decimal_trimmed : (n : ℕ) → n < 2 ^ 64 → trim_ows (32 ∷ decimal n) ≡ decimal n
decimal_trimmed n small =
    let digits = decimal_digits n small in
    trim_ows_space (decimal n) (digits_stay (decimal n) digits) (digits_stay (reverse (decimal n)) (AllPass-reverse is_ascii_digit (decimal n) digits))

decimal_bytes : (n : ℕ) → n < 2 ^ 64 → AllPass is_value_byte (decimal n)
decimal_bytes n small = All-weaker (λ b. IsTrue (is_ascii_digit b)) (λ b. IsTrue (is_value_byte b)) (λ b digit. grind (arith, nat_tests)) (decimal n) (decimal_digits n small)

media_trimmed : (media : List ℕ) → IsMedia media → trim_ows (32 ∷ media) ≡ media
unfolding trim_ows
media_trimmed media is = is.trimmed

with_media : (media : Option (List ℕ)) (fs : List Field) → IfSome media IsMedia → All IsField fs → All IsField (media_fields media ++ fs)
unfolding is_token_byte
with_media None fs is all = all
with_media (Some media) fs is all = All-cons IsField _ _ (is_field (codes "Content-Type") media (omega arith) refl is.bytes) all

are_fields : (media : Option (List ℕ)) (connection : List ℕ) (n : ℕ) → IfSome media IsMedia → AllPass is_value_byte connection → n < 2 ^ 64 → All IsField (fields_of media connection n)
unfolding is_token_byte
are_fields media connection n is bytes small =
    let counted = is_field (codes "Content-Length") (decimal n) (omega arith) refl (decimal_bytes n small) in
    let last = All-cons IsField _ [] (is_field (codes "Connection") connection (omega arith) refl bytes) (All-nil IsField) in
    with_media media _ is (All-cons IsField _ (field (codes "Connection") connection ∷ []) counted last)

media_values : (media : Option (List ℕ)) (connection : List ℕ) (n : ℕ) → IfSome media IsMedia → values_in (codes "content-type") (map name_and_value (fields_of media connection n)) ≡ option_to_list media
unfolding is_name
media_values None connection n is = refl
media_values (Some media) connection n is = ap (λ (m : List ℕ). m ∷ []) (media_trimmed media is)

length_values : (media : Option (List ℕ)) (connection : List ℕ) (n : ℕ) → n < 2 ^ 64 → values_in (codes "content-length") (map name_and_value (fields_of media connection n)) ≡ decimal n ∷ []
unfolding is_name
length_values None connection n small = ap (λ (m : List ℕ). m ∷ []) (decimal_trimmed n small)
length_values (Some media) connection n small = ap (λ (m : List ℕ). m ∷ []) (decimal_trimmed n small)

coding_values : (media : Option (List ℕ)) (connection : List ℕ) (n : ℕ) → values_in (codes "transfer-encoding") (map name_and_value (fields_of media connection n)) ≡ []
unfolding is_name
coding_values None connection n = refl
coding_values (Some media) connection n = refl

-- the length is said, and no coding
frames : (neither : Framing) (fields : List (List ℕ × List ℕ)) (n : ℕ) → n < 10 ^ 19 → n < 2 ^ 64 → values_in (codes "content-length") fields ≡ decimal n ∷ [] → values_in (codes "transfer-encoding") fields ≡ [] → FramesAs neither fields (Counted n)
frames neither fields n few small lengths codings = record {
  length = Some (decimal n);
  coding = None;
  lengths = lengths;
  codings = codings;
  says = (record { some = (decimal_is_IsNumeral n small).0.0; few = length-decimal-le 19 n (omega arith) few small; digits = decimal_digits n small }, ap Counted (sym (decimal_is_IsNumeral n small).1));
}

-- beside the host there are three fields at most
few_fields : (media : Option (List ℕ)) (connection : List ℕ) (n : ℕ) → length (fields_of media connection n) ≤ 3
few_fields None connection n = omega arith
few_fields (Some media) connection n = omega arith

-- the lengths of a body that is within the limit have few digits
few_bytes : (n : ℕ) → n ≤ MAX_BODY → (n < 10 ^ 19) × (n < 2 ^ 64)
few_bytes n within = (omega arith, omega arith)

-- the parts of a head, grouped as they are written and as they are read
request_parts : (m s t v e l f body : List ℕ) → m ++ s ++ (t ++ v ++ e) ++ l ++ (f ++ e ++ body) ≡ m ++ (s ++ t) ++ v ++ e ++ (l ++ f ++ e) ++ body
request_parts m s t v e l f body = simp append_assoc

abbrev head_of : List ℕ → List ℕ → List ℕ → List Field → RequestHead
head_of method target host fields = record { blank = []; method = method; target = target; minor = 1; line_end = crlf; fields = field (codes "Host") host ∷ fields; last = crlf }

request_prints : (method target host : List ℕ) (fields : List Field) (body : List ℕ) → request_line method target ++ line (codes "Host: " ++ host) ++ (print_section fields crlf ++ body) ≡ print_request (head_of method target host fields) ++ body
unfolding print_request
request_prints method target host fields body =
    request_parts method (codes " ") target (codes " HTTP/1.1") (13 ∷ 10 ∷ []) (line (codes "Host: " ++ host)) (flat_map print_field fields) body

all_graphic : (a b : Bool) (c : List ℕ) → IsTrue (a && (list_all is_graphic c && b)) → AllPass is_graphic c
all_graphic a b c is = AllPass-from_list_all is_graphic c (grind (arith, nat_tests))

graphic_behind : (address : List ℕ) → IsTrue (has_address_form address) → AllPass is_graphic (behind_scheme address)
unfolding has_address_form
graphic_behind address is = all_graphic (bytes_eq (take 7 address) (codes "http://")) (is_behind_scheme (drop 7 address)) (drop 7 address) is

slash_all : (bytes : List ℕ) → AllPass is_graphic bytes → AllPass is_graphic (slash_or bytes)
slash_all [] all = All-cons (λ b. IsTrue (is_graphic b)) 47 [] refl all
slash_all (b ∷ bytes) all = all

slash_some : (bytes : List ℕ) → 0 < length (slash_or bytes)
slash_some [] = omega arith
slash_some (b ∷ bytes) = omega arith

target_graphic : (address : List ℕ) → IsTrue (has_address_form address) → AllPass is_graphic (target address)
target_graphic address is = slash_all _ (All-drop (λ b. IsTrue (is_graphic b)) _ _ (graphic_behind address is))

host_bytes : (address : List ℕ) → IsTrue (has_address_form address) → AllPass is_value_byte (host address)
host_bytes address is =
    All-weaker (λ b. IsTrue (is_graphic b)) (λ b. IsTrue (is_value_byte b)) (λ b graphic. grind (arith, nat_tests)) (host address)
    (All-take (λ b. IsTrue (is_graphic b)) _ _ (graphic_behind address is))

method_token : (b : Bool) → IsToken (if b then codes "GET" else codes "POST")
unfolding is_token_byte
method_token true = (omega arith, AllPass-from_list_all is_token_byte (codes "GET") refl)
method_token false = (omega arith, AllPass-from_list_all is_token_byte (codes "POST") refl)

method_said : (b : Bool) → (if b then codes "GET" else codes "POST") ≡ method_text (if b then Get else Post)
method_said true = refl
method_said false = refl

abbrev written_head : List ℕ → Option (List ℕ) → List ℕ → RequestHead
written_head address media body = head_of (method (target address) media body) (target address) (host address) (fields_of media (codes "close") (length body))

request_valid : (address : List ℕ) (media : Option (List ℕ)) (body : List ℕ) → IsTrue (has_address_form address) → IfSome media IsMedia → length body ≤ MAX_BODY → IsRequestHead (written_head address media body)
unfolding is_token_byte
request_valid address media body form is within =
    let graphic = target_graphic address form in record {
      method = method_token (asks (target address) media body);
      target = (slash_some _, All-weaker (λ b. IsTrue (is_graphic b)) (λ b. IsTrue (is_uri_byte b)) (λ b graphic. grind (arith, nat_tests)) (target address) graphic);
      target_text = IsUtf8-from_ascii (target address) (IsAscii-from_all (target address) (All-weaker (λ b. IsTrue (is_graphic b)) (λ b. b < 128) (λ b graphic. grind (arith, nat_tests)) (target address) graphic));
      minor = omega arith;
      fields = All-cons IsField _ (fields_of media (codes "close") (length body)) (is_field (codes "Host") (host address) (omega arith) refl (host_bytes address form))
          (are_fields media (codes "close") (length body) is (AllPass-from_list_all is_value_byte (codes "close") refl) (few_bytes (length body) within).1);
    }

closing : (host : List ℕ) (media : Option (List ℕ)) (n : ℕ) → closes (map name_and_value (field (codes "Host") host ∷ fields_of media (codes "close") n)) ≡ true
unfolding closes is_name names_close trim_ows
closing host None n = refl
closing host (Some media) n = refl

request_says : (address : List ℕ) (media : Option (List ℕ)) (body : List ℕ) → IfSome media IsMedia → length body ≤ MAX_BODY → SaysRequest (written_head address media body) (start_of (request_to address media body) (Counted (length body)) false)
unfolding is_name
request_says address media body is within =
    let few = few_bytes (length body) within in record {
      method = method_said (asks (target address) media body);
      target = refl;
      media = media_values media (codes "close") (length body) is;
      framing = frames Empty (map name_and_value (written_head address media body).fields) (length body) few.0 few.1 (length_values media (codes "close") (length body) few.1) (coding_values media (codes "close") (length body));
      kept = ap (λ (b : Bool). (1 == 1) && not b) (sym (closing (host address) media (length body)));
    }

request_whole : (address : List ℕ) (media : Option (List ℕ)) (body : List ℕ) → request_text address media body ≡ print_request (written_head address media body) ++ body
unfolding request_text
request_whole address media body =
    ap (λ (t : List ℕ). request_line (method (target address) media body) (target address) ++ line (codes "Host: " ++ host address) ++ t) (fields_print media (codes "close") body)
    ∙ request_prints (method (target address) media body) (target address) (host address) (fields_of media (codes "close") (length body)) body

pub request_back : (address : List ℕ) (media : Option (List ℕ)) (body rest : List ℕ) → IsTrue (has_address_form address) → IfSome media IsMedia → IsWithinLimits (request_text address media body) body → BeginsKept (request_text address media body ++ rest) (request_to address media body) false rest
request_back address media body rest form is within =
    let whole = request_whole address media body in record {
      head = written_head address media body;
      framing = Counted (length body);
      behind = body ++ rest;
      reads = (request_valid address media body form is within.body, ap (λ (t : List ℕ). t ++ rest) whole ∙ append_assoc (print_request (written_head address media body)) body rest);
      small = record {
        bytes = omega (arith, within.head, ap length whole, length-append (print_request (written_head address media body)) body);
        fields = omega (arith, few_fields media (codes "close") (length body));
      };
      says = request_says address media body is within.body;
      body = (refl, within.body, refl);
    }

-- the parts of a head, grouped as they are written and as they are read
response_parts : (v r e f body : List ℕ) → v ++ (r ++ e) ++ (f ++ e ++ body) ≡ v ++ r ++ e ++ (f ++ e) ++ body
response_parts v r e f body = simp append_assoc

abbrev answer_head : ℕ → List Field → ResponseHead
answer_head status fields = record { blank = []; minor = 1; digits = decimal status; reason = Some (reason status); line_end = crlf; fields = fields; last = crlf }

response_prints : (status : ℕ) (fields : List Field) (body : List ℕ) → status_line status ++ (print_section fields crlf ++ body) ≡ print_response (answer_head status fields) ++ body
unfolding print_response
response_prints status fields body = response_parts (codes "HTTP/1.1 " ++ decimal status) (codes " " ++ reason status) (13 ∷ 10 ∷ []) (flat_map print_field fields) body

response_whole : (status : ℕ) (media : Option (List ℕ)) (connection body : List ℕ) → response_text status media connection body ≡ print_response (answer_head status (fields_of media connection (length body))) ++ body
unfolding response_text
response_whole status media connection body =
    ap (λ (t : List ℕ). status_line status ++ t) (fields_print media connection body)
    ∙ response_prints status (fields_of media connection (length body)) body

-- the statuses that are written have three digits, and a body may stand behind each
status_range : (status : ℕ) → IsTrue (is_status status) → (200 ≤ status) × (status < 1000)
status_range status is = (grind (arith, nat_tests), grind (arith, nat_tests))

has_body : (status : ℕ) → IsTrue (is_status status) → ((status == 204) || (status == 304)) ≡ false
has_body status is = grind (arith, nat_tests)

three_digits : (status : ℕ) → 200 ≤ status → status < 1000 → length (decimal status) ≡ 3
three_digits status least most =
    omega (arith, length_pair status (omega arith) (omega arith), length_one (status / 100) (omega arith))

either_bytes : (b : Bool) (xs ys : List ℕ) → AllPass is_value_byte xs → AllPass is_value_byte ys → AllPass is_value_byte (if b then xs else ys)
either_bytes true xs ys first second = first
either_bytes false xs ys first second = second

literal_bytes : (bytes : List ℕ) → list_all is_value_byte bytes ≡ true → AllPass is_value_byte bytes
literal_bytes bytes pass = AllPass-from_list_all is_value_byte bytes pass

reason_bytes : (status : ℕ) → AllPass is_value_byte (reason status)
reason_bytes status =
    either_bytes (status == 200) _ _ (literal_bytes (codes "OK") refl)
    (either_bytes (status == 202) _ _ (literal_bytes (codes "Accepted") refl)
    (either_bytes (status == 400) _ _ (literal_bytes (codes "Bad Request") refl)
    (either_bytes (status == 404) _ _ (literal_bytes (codes "Not Found") refl)
    (either_bytes (status == 409) _ _ (literal_bytes (codes "Conflict") refl)
    (either_bytes (status == 410) _ _ (literal_bytes (codes "Gone") refl)
    (either_bytes (status == 413) _ _ (literal_bytes (codes "Content Too Large") refl) (literal_bytes (codes "Service Unavailable") refl)))))))

response_valid : (status : ℕ) (media : Option (List ℕ)) (connection : List ℕ) (n : ℕ) → IsTrue (is_status status) → IfSome media IsMedia → AllPass is_value_byte connection → n ≤ MAX_BODY → IsResponseHead (answer_head status (fields_of media connection n))
response_valid status media connection n written is bytes within =
    let range = status_range status written in record {
      minor = omega arith;
      digits = (three_digits status range.0 range.1, decimal_digits status (omega arith));
      reason = reason_bytes status;
      fields = are_fields media connection n is bytes (few_bytes n within).1;
    }

response_says : (status : ℕ) (media : Option (List ℕ)) (connection body : List ℕ) → IsTrue (is_status status) → IfSome media IsMedia → length body ≤ MAX_BODY → SaysResponse (answer_head status (fields_of media connection (length body))) (responded (response_with status media body) (Counted (length body)))
response_says status media connection body written is within =
    let range = status_range status written in
    let few = few_bytes (length body) within in record {
      status = (decimal_is_IsNumeral status (omega arith)).1;
      final = range.0;
      media = media_values media connection (length body) is;
      said = Counted (length body);
      says = frames ToEnd (map name_and_value (fields_of media connection (length body))) (length body) few.0 few.1 (length_values media connection (length body) few.1) (coding_values media connection (length body));
      framing = ap (λ (b : Bool). if b then Empty else Counted (length body)) (sym (has_body status written));
    }

pub response_back : (status : ℕ) (media : Option (List ℕ)) (connection body rest : List ℕ) → IsTrue (is_status status) → IfSome media IsMedia → AllPass is_value_byte connection → IsWithinLimits (response_text status media connection body) body → BeginsResponse (response_text status media connection body ++ rest) (response_with status media body) rest
response_back status media connection body rest written is bytes within =
    let fields = fields_of media connection (length body) in
    let whole = response_whole status media connection body in record {
      head = answer_head status fields;
      framing = Counted (length body);
      behind = body ++ rest;
      reads = (response_valid status media connection (length body) written is bytes within.body, ap (λ (t : List ℕ). t ++ rest) whole ∙ append_assoc (print_response (answer_head status fields)) body rest);
      small = record {
        bytes = omega (arith, within.head, ap length whole, length-append (print_response (answer_head status fields)) body);
        fields = omega (arith, few_fields media connection (length body));
      };
      says = response_says status media connection body written is within.body;
      body = (refl, within.body, refl);
    }

-- the two connections that are written
pub closed_bytes : AllPass is_value_byte (codes "close")
closed_bytes = literal_bytes (codes "close") refl

pub kept_bytes : AllPass is_value_byte (codes "keep-alive")
kept_bytes = literal_bytes (codes "keep-alive") refl
