use Rattle.std.proofs.Common.{◌≡◌, ◌<◌, ◌^◌, true, take}
use Rattle.std.specs.List.{list_all}
use Rattle.rapid_model.specs.EndpointText.{is_digit, value_of}
use Rattle.rapid_endpoint.proofs.number.spelled.Given as goal

abbrev pub invariant-loop-digit : goal.invariant-loop-digit
invariant-loop-digit l = record {
  digits : list_all is_digit (take l.digit-index l.text) ≡ true;
  value : l.value ≡ value_of (take l.digit-index l.text);
  small : l.value < 10 ^ l.digit-index;
}
