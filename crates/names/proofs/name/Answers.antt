-- `names::name` meets its contract: each field's own name, read from the row of the dictionary that has it.
use Rattle.std.proofs.Common.{sym, ap}
use Rattle.wire.specs.Spelled.{spelled}
use Rattle.tables.specs.Dictionary.{entry}
use Rattle.names.specs.Names.{utf8, name_of}
use Rattle.names.proofs.name.Goals as goal

pub returns-in-AggressorIndicator : goal.returns-in-AggressorIndicator
unfolding name_of utf8 spelled entry
returns-in-AggressorIndicator c = sym (ap name_of c.in-AggressorIndicator.is)

pub returns-in-BrokerLocationId : goal.returns-in-BrokerLocationId
unfolding name_of utf8 spelled entry
returns-in-BrokerLocationId c = sym (ap name_of c.in-BrokerLocationId.is)

pub returns-in-BusinessRejectCode : goal.returns-in-BusinessRejectCode
unfolding name_of utf8 spelled entry
returns-in-BusinessRejectCode c = sym (ap name_of c.in-BusinessRejectCode.is)

pub returns-in-BusinessRejectReferenceId : goal.returns-in-BusinessRejectReferenceId
unfolding name_of utf8 spelled entry
returns-in-BusinessRejectReferenceId c = sym (ap name_of c.in-BusinessRejectReferenceId.is)

pub returns-in-ClearingInstruction : goal.returns-in-ClearingInstruction
unfolding name_of utf8 spelled entry
returns-in-ClearingInstruction c = sym (ap name_of c.in-ClearingInstruction.is)

pub returns-in-ClientOrderId : goal.returns-in-ClientOrderId
unfolding name_of utf8 spelled entry
returns-in-ClientOrderId c = sym (ap name_of c.in-ClientOrderId.is)

pub returns-in-CopyMessageIndicator : goal.returns-in-CopyMessageIndicator
unfolding name_of utf8 spelled entry
returns-in-CopyMessageIndicator c = sym (ap name_of c.in-CopyMessageIndicator.is)

pub returns-in-CounterpartyBrokerId : goal.returns-in-CounterpartyBrokerId
unfolding name_of utf8 spelled entry
returns-in-CounterpartyBrokerId c = sym (ap name_of c.in-CounterpartyBrokerId.is)

pub returns-in-CumulativeQuantity : goal.returns-in-CumulativeQuantity
unfolding name_of utf8 spelled entry
returns-in-CumulativeQuantity c = sym (ap name_of c.in-CumulativeQuantity.is)

pub returns-in-EndSequence : goal.returns-in-EndSequence
unfolding name_of utf8 spelled entry
returns-in-EndSequence c = sym (ap name_of c.in-EndSequence.is)

pub returns-in-ExecType : goal.returns-in-ExecType
unfolding name_of utf8 spelled entry
returns-in-ExecType c = sym (ap name_of c.in-ExecType.is)

pub returns-in-ExecutionId : goal.returns-in-ExecutionId
unfolding name_of utf8 spelled entry
returns-in-ExecutionId c = sym (ap name_of c.in-ExecutionId.is)

pub returns-in-ExecutionPrice : goal.returns-in-ExecutionPrice
unfolding name_of utf8 spelled entry
returns-in-ExecutionPrice c = sym (ap name_of c.in-ExecutionPrice.is)

pub returns-in-ExecutionQuantity : goal.returns-in-ExecutionQuantity
unfolding name_of utf8 spelled entry
returns-in-ExecutionQuantity c = sym (ap name_of c.in-ExecutionQuantity.is)

pub returns-in-ExecRestatementReason : goal.returns-in-ExecRestatementReason
unfolding name_of utf8 spelled entry
returns-in-ExecRestatementReason c = sym (ap name_of c.in-ExecRestatementReason.is)

pub returns-in-ExchangeTradeType : goal.returns-in-ExchangeTradeType
unfolding name_of utf8 spelled entry
returns-in-ExchangeTradeType c = sym (ap name_of c.in-ExchangeTradeType.is)

pub returns-in-GapFill : goal.returns-in-GapFill
unfolding name_of utf8 spelled entry
returns-in-GapFill c = sym (ap name_of c.in-GapFill.is)

pub returns-in-LeavesQuantity : goal.returns-in-LeavesQuantity
unfolding name_of utf8 spelled entry
returns-in-LeavesQuantity c = sym (ap name_of c.in-LeavesQuantity.is)

pub returns-in-LogoutText : goal.returns-in-LogoutText
unfolding name_of utf8 spelled entry
returns-in-LogoutText c = sym (ap name_of c.in-LogoutText.is)

pub returns-in-LookupRejectCode : goal.returns-in-LookupRejectCode
unfolding name_of utf8 spelled entry
returns-in-LookupRejectCode c = sym (ap name_of c.in-LookupRejectCode.is)

pub returns-in-LotType : goal.returns-in-LotType
unfolding name_of utf8 spelled entry
returns-in-LotType c = sym (ap name_of c.in-LotType.is)

pub returns-in-MatchType : goal.returns-in-MatchType
unfolding name_of utf8 spelled entry
returns-in-MatchType c = sym (ap name_of c.in-MatchType.is)

pub returns-in-MaxPriceLevels : goal.returns-in-MaxPriceLevels
unfolding name_of utf8 spelled entry
returns-in-MaxPriceLevels c = sym (ap name_of c.in-MaxPriceLevels.is)

pub returns-in-MessageRejectCode : goal.returns-in-MessageRejectCode
unfolding name_of utf8 spelled entry
returns-in-MessageRejectCode c = sym (ap name_of c.in-MessageRejectCode.is)

pub returns-in-NewPassword : goal.returns-in-NewPassword
unfolding name_of utf8 spelled entry
returns-in-NewPassword c = sym (ap name_of c.in-NewPassword.is)

pub returns-in-NewSequenceNumber : goal.returns-in-NewSequenceNumber
unfolding name_of utf8 spelled entry
returns-in-NewSequenceNumber c = sym (ap name_of c.in-NewSequenceNumber.is)

pub returns-in-NextExpectedMessageSequence : goal.returns-in-NextExpectedMessageSequence
unfolding name_of utf8 spelled entry
returns-in-NextExpectedMessageSequence c = sym (ap name_of c.in-NextExpectedMessageSequence.is)

pub returns-in-OrderId : goal.returns-in-OrderId
unfolding name_of utf8 spelled entry
returns-in-OrderId c = sym (ap name_of c.in-OrderId.is)

pub returns-in-OwningBrokerId : goal.returns-in-OwningBrokerId
unfolding name_of utf8 spelled entry
returns-in-OwningBrokerId c = sym (ap name_of c.in-OwningBrokerId.is)

pub returns-in-OrderQuantity : goal.returns-in-OrderQuantity
unfolding name_of utf8 spelled entry
returns-in-OrderQuantity c = sym (ap name_of c.in-OrderQuantity.is)

pub returns-in-OrderStatus : goal.returns-in-OrderStatus
unfolding name_of utf8 spelled entry
returns-in-OrderStatus c = sym (ap name_of c.in-OrderStatus.is)

pub returns-in-OrderType : goal.returns-in-OrderType
unfolding name_of utf8 spelled entry
returns-in-OrderType c = sym (ap name_of c.in-OrderType.is)

pub returns-in-OrderRestrictions : goal.returns-in-OrderRestrictions
unfolding name_of utf8 spelled entry
returns-in-OrderRestrictions c = sym (ap name_of c.in-OrderRestrictions.is)

pub returns-in-OrderCapacity : goal.returns-in-OrderCapacity
unfolding name_of utf8 spelled entry
returns-in-OrderCapacity c = sym (ap name_of c.in-OrderCapacity.is)

pub returns-in-OrderCategory : goal.returns-in-OrderCategory
unfolding name_of utf8 spelled entry
returns-in-OrderCategory c = sym (ap name_of c.in-OrderCategory.is)

pub returns-in-OriginalClientOrderId : goal.returns-in-OriginalClientOrderId
unfolding name_of utf8 spelled entry
returns-in-OriginalClientOrderId c = sym (ap name_of c.in-OriginalClientOrderId.is)

pub returns-in-Password : goal.returns-in-Password
unfolding name_of utf8 spelled entry
returns-in-Password c = sym (ap name_of c.in-Password.is)

pub returns-in-PositionEffect : goal.returns-in-PositionEffect
unfolding name_of utf8 spelled entry
returns-in-PositionEffect c = sym (ap name_of c.in-PositionEffect.is)

pub returns-in-Price : goal.returns-in-Price
unfolding name_of utf8 spelled entry
returns-in-Price c = sym (ap name_of c.in-Price.is)

pub returns-in-ProtocolType : goal.returns-in-ProtocolType
unfolding name_of utf8 spelled entry
returns-in-ProtocolType c = sym (ap name_of c.in-ProtocolType.is)

pub returns-in-PrimaryIp : goal.returns-in-PrimaryIp
unfolding name_of utf8 spelled entry
returns-in-PrimaryIp c = sym (ap name_of c.in-PrimaryIp.is)

pub returns-in-PrimaryPort : goal.returns-in-PrimaryPort
unfolding name_of utf8 spelled entry
returns-in-PrimaryPort c = sym (ap name_of c.in-PrimaryPort.is)

pub returns-in-ReferenceExecutionId : goal.returns-in-ReferenceExecutionId
unfolding name_of utf8 spelled entry
returns-in-ReferenceExecutionId c = sym (ap name_of c.in-ReferenceExecutionId.is)

pub returns-in-ReferenceFieldName : goal.returns-in-ReferenceFieldName
unfolding name_of utf8 spelled entry
returns-in-ReferenceFieldName c = sym (ap name_of c.in-ReferenceFieldName.is)

pub returns-in-ReferenceMessageType : goal.returns-in-ReferenceMessageType
unfolding name_of utf8 spelled entry
returns-in-ReferenceMessageType c = sym (ap name_of c.in-ReferenceMessageType.is)

pub returns-in-ReferenceSequenceNumber : goal.returns-in-ReferenceSequenceNumber
unfolding name_of utf8 spelled entry
returns-in-ReferenceSequenceNumber c = sym (ap name_of c.in-ReferenceSequenceNumber.is)

pub returns-in-ReferenceTestRequestId : goal.returns-in-ReferenceTestRequestId
unfolding name_of utf8 spelled entry
returns-in-ReferenceTestRequestId c = sym (ap name_of c.in-ReferenceTestRequestId.is)

pub returns-in-Reason : goal.returns-in-Reason
unfolding name_of utf8 spelled entry
returns-in-Reason c = sym (ap name_of c.in-Reason.is)

pub returns-in-SecurityExchange : goal.returns-in-SecurityExchange
unfolding name_of utf8 spelled entry
returns-in-SecurityExchange c = sym (ap name_of c.in-SecurityExchange.is)

pub returns-in-SecurityId : goal.returns-in-SecurityId
unfolding name_of utf8 spelled entry
returns-in-SecurityId c = sym (ap name_of c.in-SecurityId.is)

pub returns-in-SecurityIdSource : goal.returns-in-SecurityIdSource
unfolding name_of utf8 spelled entry
returns-in-SecurityIdSource c = sym (ap name_of c.in-SecurityIdSource.is)

pub returns-in-SecondaryIp : goal.returns-in-SecondaryIp
unfolding name_of utf8 spelled entry
returns-in-SecondaryIp c = sym (ap name_of c.in-SecondaryIp.is)

pub returns-in-SecondaryPort : goal.returns-in-SecondaryPort
unfolding name_of utf8 spelled entry
returns-in-SecondaryPort c = sym (ap name_of c.in-SecondaryPort.is)

pub returns-in-SessionStatus : goal.returns-in-SessionStatus
unfolding name_of utf8 spelled entry
returns-in-SessionStatus c = sym (ap name_of c.in-SessionStatus.is)

pub returns-in-Side : goal.returns-in-Side
unfolding name_of utf8 spelled entry
returns-in-Side c = sym (ap name_of c.in-Side.is)

pub returns-in-SmpId : goal.returns-in-SmpId
unfolding name_of utf8 spelled entry
returns-in-SmpId c = sym (ap name_of c.in-SmpId.is)

pub returns-in-StartSequence : goal.returns-in-StartSequence
unfolding name_of utf8 spelled entry
returns-in-StartSequence c = sym (ap name_of c.in-StartSequence.is)

pub returns-in-Status : goal.returns-in-Status
unfolding name_of utf8 spelled entry
returns-in-Status c = sym (ap name_of c.in-Status.is)

pub returns-in-SubmittingBrokerId : goal.returns-in-SubmittingBrokerId
unfolding name_of utf8 spelled entry
returns-in-SubmittingBrokerId c = sym (ap name_of c.in-SubmittingBrokerId.is)

pub returns-in-Text : goal.returns-in-Text
unfolding name_of utf8 spelled entry
returns-in-Text c = sym (ap name_of c.in-Text.is)

pub returns-in-TimeInForce : goal.returns-in-TimeInForce
unfolding name_of utf8 spelled entry
returns-in-TimeInForce c = sym (ap name_of c.in-TimeInForce.is)

pub returns-in-TestMessageIndicator : goal.returns-in-TestMessageIndicator
unfolding name_of utf8 spelled entry
returns-in-TestMessageIndicator c = sym (ap name_of c.in-TestMessageIndicator.is)

pub returns-in-TestRequestId : goal.returns-in-TestRequestId
unfolding name_of utf8 spelled entry
returns-in-TestRequestId c = sym (ap name_of c.in-TestRequestId.is)

pub returns-in-TransactionTime : goal.returns-in-TransactionTime
unfolding name_of utf8 spelled entry
returns-in-TransactionTime c = sym (ap name_of c.in-TransactionTime.is)

pub returns-in-TradeType : goal.returns-in-TradeType
unfolding name_of utf8 spelled entry
returns-in-TradeType c = sym (ap name_of c.in-TradeType.is)

pub returns-in-TradeReportId : goal.returns-in-TradeReportId
unfolding name_of utf8 spelled entry
returns-in-TradeReportId c = sym (ap name_of c.in-TradeReportId.is)

pub returns-in-TradeReportTransType : goal.returns-in-TradeReportTransType
unfolding name_of utf8 spelled entry
returns-in-TradeReportTransType c = sym (ap name_of c.in-TradeReportTransType.is)

pub returns-in-TradeReportType : goal.returns-in-TradeReportType
unfolding name_of utf8 spelled entry
returns-in-TradeReportType c = sym (ap name_of c.in-TradeReportType.is)

pub returns-in-TradeReportStatus : goal.returns-in-TradeReportStatus
unfolding name_of utf8 spelled entry
returns-in-TradeReportStatus c = sym (ap name_of c.in-TradeReportStatus.is)

pub returns-in-TradeId : goal.returns-in-TradeId
unfolding name_of utf8 spelled entry
returns-in-TradeId c = sym (ap name_of c.in-TradeId.is)

pub returns-in-TradeMatchId : goal.returns-in-TradeMatchId
unfolding name_of utf8 spelled entry
returns-in-TradeMatchId c = sym (ap name_of c.in-TradeMatchId.is)

pub returns-in-TradeHandlingInstructions : goal.returns-in-TradeHandlingInstructions
unfolding name_of utf8 spelled entry
returns-in-TradeHandlingInstructions c = sym (ap name_of c.in-TradeHandlingInstructions.is)

pub returns-in-TypeOfService : goal.returns-in-TypeOfService
unfolding name_of utf8 spelled entry
returns-in-TypeOfService c = sym (ap name_of c.in-TypeOfService.is)
